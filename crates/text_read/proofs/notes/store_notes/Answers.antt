-- `text_read::notes::store_notes` meets its contract. The loop's invariant is `Storing`; the lines were judged, so that none breaks. Assumes nothing.
use Prim.Native.Nat.{◌-◌}
use native.Mathlib.Omega.{arith}
use Rattle.text_read.proofs.Gather.{storing_none, storing_bad, storing_room, storing_more, storing_all}
use Rattle.text_read.proofs.Shorter.{note_later}
use Rattle.text_read.proofs.notes.store_notes.Goals as goal

pub loop-at-init : goal.loop-at-init
loop-at-init c = storing_none c.requires

pub shape_of-words-in_default : goal.shape_of-words-in_default
shape_of-words-in_default c = c.loop-at.invariant.same

pub returns-in_default : goal.returns-in_default
returns-in_default c =
    storing_bad c.loop-at.invariant c.loop-at-test.true c.line_n.ensures c.in_default.is

pub store_note-requires : goal.store_note-requires
store_note-requires c =
    let told = c.in-Some.is in
    let l = note_later c.args.s.now c.loop-at.at told c.line_n.ensures in
    storing_room c.loop-at.invariant c.loop-at-test.true c.line_n.ensures told (omega arith)

pub overflow_add-n : goal.overflow_add-n
overflow_add-n c = omega (arith, c.loop-at.invariant.gathered.few)

pub loop-at-smaller : goal.loop-at-smaller
loop-at-smaller c =
    note_later c.args.s.now c.loop-at.at c.in-Some.is c.line_n.ensures

pub loop-at-preserved : goal.loop-at-preserved
loop-at-preserved c =
    let is = c.line_n.ensures in
    let told = c.in-Some.is in
    let l = note_later c.args.s.now c.loop-at.at told is in
    let stored = c.store_note in
    storing_more c.loop-at.invariant c.loop-at-test.true is told (omega arith) stored.auto.words stored.ensures

pub shape_of-words : goal.shape_of-words
shape_of-words c = c.loop-at.invariant.same

pub returns : goal.returns
returns c = storing_all c.loop-at.invariant c.loop-at-test.false
