-- `board::registers::Board::queued` meets its contract. Assumes nothing.
use mathlib.Core.Path.{refl, sym, ◌∙◌}
use Rattle.laws.proofs.If.{if_true, if_false}
use Rattle.board.specs.Write.{sampled}
use Rattle.board.proofs.Ring.{room}
use Rattle.board.proofs.registers.Board.queued.Goals as goal

pub returns-then-is_full : goal.returns-then-is_full
unfolding sampled
returns-then-is_full c = if_true _ (sym c.is_full.ensures ∙ c.if-is_full.true) refl

pub put-longer-requires : goal.put-longer-requires
put-longer-requires c = room _ (sym c.is_full.ensures ∙ c.if-is_full.false)

pub returns : goal.returns
unfolding sampled
returns c = if_false _ (sym c.is_full.ensures ∙ c.if-is_full.false) (rw c.put-longer.ensures)
