-- `board::shape::covered` meets its contract. Assumes nothing.
use Rattle.board.proofs.Shapes.{covers_after, covers_not}
use Rattle.board.proofs.shape.covered.Goals as goal

pub returns-then-place-at : goal.returns-then-place-at
returns-then-place-at c = covers_after _ _ _ c.if-place-at.true

pub returns : goal.returns
returns c = covers_not _ _ _ c.if-place-at.false
