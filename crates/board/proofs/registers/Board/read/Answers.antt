-- `board::registers::Board::read` meets its contract. Assumes nothing.
use mathlib.Core.Path.{refl}
use native.Mathlib.Omega.{arith}
use borrow.Author.Tests.{eq-eqb, ne_eqb}
use Rattle.laws.proofs.If.{if_true, if_false}
use Rattle.board.specs.Registers.{control_of, byte_at}
use Rattle.board.proofs.Ring.{fill_most}
use Rattle.board.proofs.registers.Board.read.Goals as goal

pub returns-then-place-eq0 : goal.returns-then-place-eq0
unfolding byte_at control_of
returns-then-place-eq0 c = if_true _ (eq-eqb _ _ c.if-place-eq0.true) (rw (c.digit-then-place-eq0.ensures.value, c.digit.ensures.value))

pub returns-then-place-eq1 : goal.returns-then-place-eq1
unfolding byte_at
returns-then-place-eq1 c = if_false _ (ne_eqb _ _ c.if-place-eq0.false) (if_true _ (eq-eqb _ _ c.if-place-eq1.true) c.status.ensures)

pub returns-then-place-eq2 : goal.returns-then-place-eq2
unfolding byte_at
returns-then-place-eq2 c = if_false _ (ne_eqb _ _ c.if-place-eq0.false) (if_false _ (ne_eqb _ _ c.if-place-eq1.false) (if_true _ (eq-eqb _ _ c.if-place-eq2.true) refl))

pub overflow_cast-result : goal.overflow_cast-result
overflow_cast-result c = omega (arith, c.fill.ensures, fill_most c.args.self.queue)

pub returns-then-place-eq3 : goal.returns-then-place-eq3
unfolding byte_at
returns-then-place-eq3 c =
    if_false _ (ne_eqb _ _ c.if-place-eq0.false) (if_false _ (ne_eqb _ _ c.if-place-eq1.false)
    (if_false _ (ne_eqb _ _ c.if-place-eq2.false) (if_true _ (eq-eqb _ _ c.if-place-eq3.true) c.fill.ensures)))

pub returns : goal.returns
unfolding byte_at
returns c =
    if_false _ (ne_eqb _ _ c.if-place-eq0.false) (if_false _ (ne_eqb _ _ c.if-place-eq1.false)
    (if_false _ (ne_eqb _ _ c.if-place-eq2.false) (if_false _ (ne_eqb _ _ c.if-place-eq3.false) refl)))
