-- `sin_block::element::within` meets its contract. Assumes nothing.
use mathlib.Core.Path.{refl, sym, ◌∙◌}
use mathlib.Core.Bool.{true≢false}
use lib.Ieee.{of_bits, is_nan}
use Rattle.sin_block.proofs.Below.{number}
use Rattle.sin_block.proofs.element.within.Goals as goal

pub returns-then-x : goal.returns-then-x
returns-then-x c = (number c.args.x c.if-x.true, λ h. refl)

pub returns-else-x : goal.returns-else-x
unfolding of_bits is_nan
returns-else-x c = (tt, λ h. absurd (true≢false (sym h ∙ c.if-x.false)))
