-- `float::order::within_f32` meets its contract. Assumes nothing.
use Rattle.std.proofs.Common.{refl}
use Rattle.laws.proofs.If.{if_true, if_false}
use Rattle.ieee.specs.Order.{within_of}
use Rattle.float.proofs.order.within_f32.Goals as goal

pub returns-then-x-low : goal.returns-then-x-low
unfolding within_of
returns-then-x-low c = if_true _ c.if-x-low.true refl

pub returns : goal.returns
unfolding within_of
returns c = if_false _ c.if-x-low.false refl
