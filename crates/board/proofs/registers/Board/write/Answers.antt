-- `board::registers::Board::write` meets its contract. Assumes nothing.
use mathlib.Core.Path.{refl, sym, ◌∙◌}
use Rattle.laws.proofs.If.{if_true, if_false}
use Rattle.board.specs.Write.{write_of}
use Rattle.board.proofs.Shapes.{sample_length}
use Rattle.board.proofs.registers.Board.write.Goals as goal

pub sample_of-requires : goal.sample_of-requires
sample_of-requires c = sample_length _ _ (sym c.is_sample.ensures ∙ c.if-is_sample.true)

pub returns-then-is_sample : goal.returns-then-is_sample
unfolding write_of
returns-then-is_sample c = if_true _ (sym c.is_sample.ensures ∙ c.if-is_sample.true) (c.queued.ensures ∙ rw c.sample_of.ensures)

pub returns-then-is_permitted : goal.returns-then-is_permitted
unfolding write_of
returns-then-is_permitted c =
    if_false _ (sym c.is_sample.ensures ∙ c.if-is_sample.false)
    (if_true _ (sym c.is_permitted.ensures ∙ c.if-is_permitted.true) (rw c.stored-board.ensures))

pub returns : goal.returns
unfolding write_of
returns c =
    if_false _ (sym c.is_sample.ensures ∙ c.if-is_sample.false) (if_false _ (sym c.is_permitted.ensures ∙ c.if-is_permitted.false) refl)
