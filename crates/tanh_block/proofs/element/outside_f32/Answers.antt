-- `tanh_block::element::outside_f32` meets its contract. Assumes nothing.
use mathlib.Core.Path.{sym, subst}
use Rattle.tanh_block.specs.Inner.{Inner}
use borrow.Author.Rules.{rules}
use Rattle.tanh_block.proofs.element.outside_f32.Goals as goal

pub returns : goal.returns
returns c = (c.outside.ensures.0, λ e. subst Inner c.widen.ensures (c.outside.ensures.1 e), λ h. c.outside.ensures.2 (subst Inner (sym c.widen.ensures) h))
