-- `board::shape::is_sample` meets its contract. Assumes nothing.
use borrow.Author.Tests.{ne_eqb}
use Rattle.board.specs.Shape.{is_sample}
use Rattle.board.proofs.shape.is_sample.Goals as goal

pub returns-then-place-eq4 : goal.returns-then-place-eq4
unfolding is_sample
returns-then-place-eq4 c = rw c.if-place-eq4.true

pub returns : goal.returns
unfolding is_sample
returns c = rw (ne_eqb _ _ c.if-place-eq4.false)
