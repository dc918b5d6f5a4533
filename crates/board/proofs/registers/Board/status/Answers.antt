-- `board::registers::Board::status` meets its contract. Assumes nothing.
use Rattle.board.specs.Registers.{status_of}
use Rattle.board.proofs.registers.Board.status.Goals as goal

pub returns : goal.returns
unfolding status_of
returns c =
    rw (c.digit-3.ensures.value, c.is_full.ensures, c.digit-2.ensures.value, c.digit.ensures.value, c.is_low.ensures)
