-- `board::registers::Board::tick` meets its contract. Assumes nothing.
use mathlib.Core.Path.{sym, ◌∙◌}
use borrow.Author.Tests.{not-true, not-false}
use Rattle.board.proofs.TickEnds.{stopped, starved, took}
use Rattle.board.proofs.registers.Board.tick.Goals as goal

pub returns-then-not-self : goal.returns-then-not-self
returns-then-not-self c = stopped _ (not-true _ c.if-not-self.true)

pub returns-then-fill-eq0 : goal.returns-then-fill-eq0
returns-then-fill-eq0 c = starved _ (not-false _ c.if-not-self.false) (sym c.fill.ensures ∙ c.if-fill-eq0.true)

pub returns : goal.returns
returns c = took _ _ _ (not-false _ c.if-not-self.false) c.take-taken.ensures
