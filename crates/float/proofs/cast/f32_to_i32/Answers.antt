-- `float::cast::f32_to_i32` meets its contract. Assumes nothing.
use lib.Ieee.{of_bits, neg}
use Rattle.float.proofs.Casting.{s_top, s_bottom, s_zero}
use Rattle.float.proofs.Narrower.{in_i32, cast_fits, cast_is}
use Rattle.float.proofs.cast.f32_to_i32.Goals as goal

pub truncating_f32_to_i64-requires : goal.truncating_f32_to_i64-requires
unfolding of_bits neg
truncating_f32_to_i64-requires c = let i = in_i32 c.args.x c.if-x.true c.if-x-2.true in
    record {
      lower_bound = i.from;
      upper_bound = i.below;
    }

pub overflow_cast-result : goal.overflow_cast-result
unfolding of_bits neg
overflow_cast-result c =
    cast_fits c.args.x c.truncating_f32_to_i64.result c.truncating_f32_to_i64.ensures (in_i32 c.args.x c.if-x.true c.if-x-2.true)

pub returns-then-x-2 : goal.returns-then-x-2
unfolding of_bits neg
returns-then-x-2 c =
    cast_is c.args.x c.truncating_f32_to_i64.result c.truncating_f32_to_i64.ensures (in_i32 c.args.x c.if-x.true c.if-x-2.true)

pub returns-then-x : goal.returns-then-x
unfolding of_bits neg
returns-then-x c = s_top 31 c.args.x c.if-x.true c.if-x-2.false

pub returns-then-x-3 : goal.returns-then-x-3
unfolding of_bits neg
returns-then-x-3 c = s_bottom 31 c.args.x c.if-x.false c.if-x-3.true

pub returns : goal.returns
unfolding of_bits neg
returns c = s_zero 31 c.args.x c.if-x.false c.if-x-3.false
