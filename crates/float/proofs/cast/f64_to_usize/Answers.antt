-- `float::cast::f64_to_usize` meets its contract. Assumes nothing.
use Rattle.std.proofs.Common.{T, sym, subst, rules}
use lib.Ieee.{of_bits, neg}
use Rattle.float.proofs.Casting.{u_top, u_zero}
use Rattle.float.proofs.cast.f64_to_usize.Goals as goal

pub truncating_f64_to_u64-requires : goal.truncating_f64_to_u64-requires
unfolding of_bits neg
truncating_f64_to_u64-requires c =
    record {
      lower_bound = subst T (sym c.if-x.true) tt;
      upper_bound = subst T (sym c.if-x-2.true) tt;
    }

pub returns-then-x : goal.returns-then-x
unfolding of_bits neg
returns-then-x c = u_top c.args.x c.if-x.true c.if-x-2.false

pub returns : goal.returns
unfolding of_bits neg
returns c = u_zero c.args.x c.if-x.false
