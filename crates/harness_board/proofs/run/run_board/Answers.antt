-- `harness_board::run::run_board` meets its contract. Assumes nothing.
use mathlib.Core.Path.{◌≡◌, sym, ◌∙◌, refl, ap}
use Prim.Native.Nat.{◌/◌, ◌+◌, ◌*◌, ◌<◌}
use lib.ListN.{length}
use lib.Seq.{lt-length-set}
use Rattle.board.specs.Registers.{digit}
use native.Mathlib.Omega.{arith}
use Rattle.harness_board.proofs.Going.{going_none, going_more, going_halt, going_full}
use Rattle.harness_board.proofs.run.run_board.Goals as goal

pub loop-done-init : goal.loop-done-init
loop-done-init c = (going_none _ _ _ c.new-board.ensures, refl)

pub shape_of-answers-in_default : goal.shape_of-answers-in_default
shape_of-answers-in_default c = c.loop-done.invariant.0.kept

pub returns-in_default : goal.returns-in_default
returns-in_default c = going_halt c.loop-done.invariant.0 c.step_at.result _ c.step_at.ensures (omega arith) c.in_default.is

pub bounds-answers-done-in-loop-done : goal.bounds-answers-done-in-loop-done
bounds-answers-done-in-loop-done c =
    let d = c.loop-done in
    let h : 2 * d.done + 1 < length d.answers = omega (arith, d.invariant.0.kept) in
    lt-length-set d.answers (2 * d.done) _ h

pub loop-done-preserved : goal.loop-done-preserved
loop-done-preserved c =
    let s = c.step_at in
    let h = c.loop-done.invariant in
    let line = c.bit.ensures ∙ ap digit c.interrupt.ensures in
    (going_more h.0 s.result _ s.ensures (omega arith) c.in-Some.step c.in-Some.is _ line, h.1)

pub shape_of-answers : goal.shape_of-answers
shape_of-answers c = c.loop-done.invariant.0.kept

pub returns : goal.returns
returns c =
    let all : c.loop-done.done ≡ length c.args.answers.now / 2 = omega arith in
    let room = c.loop-done.invariant.1 in
    rw (room ∙ sym all) (going_full c.loop-done.invariant.0 (omega arith))
