-- `board::registers::Board::is_low` meets its contract. Assumes nothing.
use Rattle.board.proofs.registers.Board.is_low.Goals as goal

pub returns : goal.returns
returns c = rw (c.fill.ensures, c.wide.ensures)
