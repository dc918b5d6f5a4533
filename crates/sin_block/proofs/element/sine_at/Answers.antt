-- `sin_block::element::sine_at` meets its contract. Assumes nothing.
use Rattle.sin_block.specs.Quarter.{sine_at}
use borrow.Author.Rules.{rules}
use Rattle.sin_block.proofs.element.sine_at.Goals as goal

pub returns : goal.returns
unfolding sine_at
returns c = rw (c.pick.ensures, c.poly_at-p.ensures)
