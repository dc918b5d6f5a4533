-- `board::registers::Board::new` meets its contract. Assumes nothing.
use Rattle.board.proofs.registers.Board.new.Goals as goal

pub returns : goal.returns
returns c = rw c.new-queue.ensures
