-- `text_read::notes::count_notes` meets its contract. The loop's invariant is `Gathered`; a line is a byte at least, so that the rest gets shorter. Assumes nothing.
use Prim.Native.Nat.{◌-◌}
use native.Mathlib.Omega.{arith}
use Rattle.text_read.proofs.Gather.{gathered_none, gathered_bad, gathered_more, gathered_count}
use Rattle.text_read.proofs.Shorter.{note_later}
use Rattle.text_read.proofs.notes.count_notes.Goals as goal

pub loop-at-init : goal.loop-at-init
loop-at-init c = gathered_none

pub returns-in_err-next : goal.returns-in_err-next
returns-in_err-next c =
    rw (c.from_residual.ensures, ← (gathered_bad c.loop-at.invariant c.loop-at-test.true c.line_n.ensures c.in_err-next.was))

pub overflow_add-n : goal.overflow_add-n
overflow_add-n c = omega (arith, c.loop-at.invariant.few)

pub loop-at-smaller : goal.loop-at-smaller
loop-at-smaller c =
    note_later c.args.s.now c.loop-at.at c.in_ok-next.was c.line_n.ensures

pub loop-at-preserved : goal.loop-at-preserved
loop-at-preserved c =
    let is = c.line_n.ensures in
    let told = c.in_ok-next.was in
    let l = note_later c.args.s.now c.loop-at.at told is in
    gathered_more c.loop-at.invariant c.loop-at-test.true is told (omega arith)

pub returns : goal.returns
returns c = gathered_count c.loop-at.invariant c.loop-at-test.false
