-- `board::shape::is_permitted` meets its contract. Assumes nothing.
use Rattle.board.specs.Shape.{permitted}
use Rattle.board.proofs.shape.is_permitted.Goals as goal

pub returns-then-is_inside : goal.returns-then-is_inside
unfolding permitted
returns-then-is_inside c =
    rw (← c.is_inside.ensures, c.if-is_inside.true)
    (rw (← c.byte_for-mark.ensures, ← c.byte_for-status.ensures, ← c.byte_for-control.ensures) c.is_valid.ensures)

pub returns : goal.returns
unfolding permitted
returns c = rw (← c.is_inside.ensures, c.if-is_inside.false)
