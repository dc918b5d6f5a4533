-- `exp_block::outside_f32` meets its contract. Assumes nothing.
use mathlib.Core.Path.{sym, subst}
use Rattle.exp_fall.specs.Falling.{Falling}
use borrow.Author.Rules.{rules}
use Rattle.exp_block.proofs.outside_f32.Goals as goal

pub returns : goal.returns
returns c = (c.outside.ensures.0, λ e. subst Falling c.widen.ensures (c.outside.ensures.1 e), λ h. c.outside.ensures.2 (subst Falling (sym c.widen.ensures) h))
