-- `board::registers::Board::is_full` meets its contract. Assumes nothing.
use Rattle.board.proofs.registers.Board.is_full.Goals as goal

pub returns : goal.returns
returns c = rw c.fill.ensures
