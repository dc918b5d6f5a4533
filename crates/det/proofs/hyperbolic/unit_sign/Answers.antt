-- `det::hyperbolic::unit_sign` meets its contract. Assumes nothing.
use mathlib.Core.Path.{refl}
use Rattle.laws.proofs.If.{if_true, if_false}
use Rattle.det.proofs.hyperbolic.unit_sign.Goals as goal

pub returns-then-x : goal.returns-then-x
returns-then-x c = if_true _ c.if-x.true refl

pub returns-else-x : goal.returns-else-x
returns-else-x c = if_false _ c.if-x.false refl
