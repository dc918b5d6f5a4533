-- `float::cast::f64_to_i64` meets its contract. Assumes nothing.
use Rattle.std.proofs.Common.{T, sym, subst, rules}
use lib.Ieee.{of_bits, neg}
use Rattle.float.proofs.Casting.{s_top, s_bottom, s_zero}
use Rattle.float.proofs.cast.f64_to_i64.Goals as goal

pub truncating_f64_to_i64-requires : goal.truncating_f64_to_i64-requires
unfolding of_bits neg
truncating_f64_to_i64-requires c =
    record {
      lower_bound = subst T (sym c.if-x.true) tt;
      upper_bound = subst T (sym c.if-x-2.true) tt;
    }

pub returns-then-x : goal.returns-then-x
unfolding of_bits neg
returns-then-x c = s_top 63 c.args.x c.if-x.true c.if-x-2.false

pub returns-then-x-3 : goal.returns-then-x-3
unfolding of_bits neg
returns-then-x-3 c = s_bottom 63 c.args.x c.if-x.false c.if-x-3.true

pub returns : goal.returns
unfolding of_bits neg
returns c = s_zero 63 c.args.x c.if-x.false c.if-x-3.false
