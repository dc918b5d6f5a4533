-- `board::registers::Board::interrupt` meets its contract. Assumes nothing.
use Rattle.board.specs.Registers.{interrupt_of}
use Rattle.board.proofs.Bytes.{line_by_status}
use Rattle.board.proofs.registers.Board.interrupt.Goals as goal

pub returns-then-self : goal.returns-then-self
returns-then-self c = rw c.status.ensures (line_by_status _ c.if-self.true)

pub returns : goal.returns
unfolding interrupt_of
returns c = rw c.if-self.false
