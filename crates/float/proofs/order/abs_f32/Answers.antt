-- `float::order::abs_f32` meets its contract, one law for each way out. Assumes nothing.
use denote.Floats.{passes}
use lib.Ieee.{binary32, of_bits}
use Rattle.float.proofs.Signs.{abs_above, abs_zero, abs_else}
use Rattle.float.proofs.order.abs_f32.Goals as goal

pub returns-then-x : goal.returns-then-x
unfolding of_bits
returns-then-x c = abs_above c.args.x c.if-x.true

pub returns-then-x-2 : goal.returns-then-x-2
unfolding of_bits
returns-then-x-2 c = abs_zero binary32 c.args.x (passes _ c.well_formed.0.1) c.if-x-2.true

pub returns : goal.returns
unfolding of_bits
returns c = abs_else c.args.x c.if-x.false c.if-x-2.false
