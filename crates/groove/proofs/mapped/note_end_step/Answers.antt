-- `groove::mapped::note_end_step` meets its contract. Assumes nothing.
use Rattle.std.proofs.Common.{◌≡◌, ◌+◌, min, arith, rules}
use Rattle.groove.specs.Mapped.{end_step}
use Rattle.groove.proofs.mapped.note_end_step.Goals as goal

pub returns-then-note-lt1 : goal.returns-then-note-lt1
unfolding end_step
returns-then-note-lt1 c =
    let e : c.saturating_add.result ≡ min (c.args.note.step + 1) 4294967295 = c.saturating_add.ensures in
    omega (arith, e)

pub returns : goal.returns
unfolding end_step
returns c =
    let e : c.saturating_add-2.result ≡ min (c.args.note.step + c.args.note.len) 4294967295 = c.saturating_add-2.ensures in
    omega (arith, e)
