-- `det::logarithm::fold_mant` meets its contract. Assumes nothing.
use mathlib.Core.Path.{refl}
use Rattle.laws.proofs.If.{if_true, if_false}
use Rattle.det.proofs.logarithm.fold_mant.Goals as goal

pub returns-then-mant : goal.returns-then-mant
returns-then-mant c = if_true _ c.if-mant.true refl

pub returns-else-mant : goal.returns-else-mant
returns-else-mant c = if_false _ c.if-mant.false refl
