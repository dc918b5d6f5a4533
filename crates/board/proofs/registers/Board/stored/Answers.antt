-- `board::registers::Board::stored` meets its contract. Assumes nothing.
use Rattle.board.specs.Write.{stored}
use Rattle.board.proofs.registers.Board.stored.Goals as goal

pub returns : goal.returns
unfolding stored
returns c =
    rw (c.pick-4.ensures, c.byte_for.ensures, c.pick-3.ensures, c.pick-2.ensures, c.pick.ensures)
    (rw (c.covered-to_mark.ensures, c.covered-to_control.ensures, c.byte_for-status.ensures, c.byte_for-control.ensures))
