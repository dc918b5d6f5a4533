-- `sin_block::element::poly_at` meets its contract. Assumes nothing.
use Rattle.sin_block.specs.Quarter.{poly_at}
use borrow.Author.Rules.{rules}
use Rattle.sin_block.proofs.element.poly_at.Goals as goal

pub returns : goal.returns
unfolding poly_at
returns c = rw (c.pick.ensures, c.cos_poly-c.ensures, c.sin_poly-s.ensures)
