-- `text_voice_line::line_v` meets its contract. Assumes nothing.
use native.Mathlib.Omega.{arith}
use Rattle.text_voice_line.specs.Voice.{sound_of, line_v}
use Rattle.text_lines.proofs.Small.{field_small}
use Rattle.text_voice_line.proofs.line_v.Goals as goal

pub returns-in_err-first : goal.returns-in_err-first
unfolding line_v
returns-in_err-first c = rw (c.from_residual.ensures, ← (rw c.in_err-first.was at c.expect.ensures))

pub returns-in_err-place : goal.returns-in_err-place
unfolding line_v
returns-in_err-place c =
    rw (c.from_residual-in_err-place.ensures, ← (rw c.in_ok-first.was at c.expect.ensures), ← (rw c.in_err-place.was at c.field.ensures))

pub overflow_cast-place : goal.overflow_cast-place
overflow_cast-place c =
    let h = field_small _ _ c.args.s.now c.in_ok-place.was c.field.ensures in
    omega arith

pub returns-in_err-wave : goal.returns-in_err-wave
unfolding line_v sound_of
returns-in_err-wave c =
    let first = rw c.in_ok-first.was at c.expect.ensures in
    rw (c.from_residual-in_err-wave.ensures, ← first, ← (rw c.in_ok-place.was at c.field.ensures), ← c.at.ensures, c.in_err-wave.was)

pub overflow_cast-place-2 : goal.overflow_cast-place-2
overflow_cast-place-2 c =
    let h = field_small _ _ c.args.s.now c.in_ok-place.was c.field.ensures in
    omega arith

pub returns : goal.returns
unfolding line_v
returns c =
    let first = rw c.in_ok-first.was at c.expect.ensures in
    rw (← first, ← (rw c.in_ok-place.was at c.field.ensures), ← c.at.ensures, c.in_ok-wave.was) c.sound_of.ensures
