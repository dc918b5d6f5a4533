-- `board::shape::is_inside` meets its contract. Assumes nothing.
use Rattle.board.proofs.Shapes.{inside_is, inside_far}
use Rattle.board.proofs.shape.is_inside.Goals as goal

pub returns-then-count-eq0 : goal.returns-then-count-eq0
returns-then-count-eq0 c = rw c.if-count-eq0.true

pub returns-then-place-gt3 : goal.returns-then-place-gt3
returns-then-place-gt3 c = inside_far _ _ c.if-count-eq0.false c.if-place-gt3.true

pub returns : goal.returns
returns c = inside_is _ _ c.if-count-eq0.false c.if-place-gt3.false
