-- `sin_block::element::whole` meets its contract. Assumes nothing.
use mathlib.Core.Path.{refl}
use Rattle.sin_block.specs.OneSum.{nearest_by_one_sum}
use Rattle.sin_block.proofs.element.whole.Goals as goal

pub returns : goal.returns
unfolding nearest_by_one_sum
returns c = refl
