-- `wave_frames::put_file_lines` meets its contract. Assumes nothing.
use mathlib.Core.Path.{sym}
use native.Mathlib.Omega.{arith}
use lib.Seq.{length-take-le}
use Rattle.text_listing.proofs.Put.{printed_as}
use Rattle.text_listing.proofs.Listings.{refusal_room}
use Rattle.wave_read.proofs.Ending.{samples_fit}
use Rattle.wave_frames.proofs.Shown.{shown_long, shown_samples, shown_refusal, lines_room}
use Rattle.wave_frames.proofs.put_file_lines.Goals as goal

pub put_refusal-requires : goal.put_refusal-requires
put_refusal-requires c = refusal_room 23 (omega arith) (omega (arith, c.requires.in_bounds))

pub put_refusal-requires-in-Err : goal.put_refusal-requires-in-Err
put_refusal-requires-in-Err c =
    refusal_room c.number.result (omega arith) (omega (arith, c.requires.in_bounds))

pub returns-then-file-gt65536 : goal.returns-then-file-gt65536
returns-then-file-gt65536 c = printed_as (shown_long _ c.if-file-gt65536.true) c.put_refusal.ensures

pub slice_bounds-put_lines-end : goal.slice_bounds-put_lines-end
slice_bounds-put_lines-end c =
    let fits = samples_fit c.read_wave.ensures _ c.in-Ok.is in
    omega (arith, fits, c.read_wave.auto.samples)

pub slice_bounds-put_lines-end-in-Ok : goal.slice_bounds-put_lines-end-in-Ok
slice_bounds-put_lines-end-in-Ok c =
    let fits = samples_fit c.read_wave.ensures _ c.in-Ok.is in
    sym (length-take-le _ _ (omega (arith, fits, c.read_wave.auto.samples)))

pub put_lines-requires : goal.put_lines-requires
put_lines-requires c =
    let fits = samples_fit c.read_wave.ensures _ c.in-Ok.is in
    lines_room {count = c.in-Ok.found.count} (omega (arith, fits, c.requires.value)) (sym (length-take-le _ _ (omega (arith, fits, c.read_wave.auto.samples)))) c.requires.in_bounds

pub returns-in-Ok : goal.returns-in-Ok
returns-in-Ok c =
    printed_as (shown_samples c.read_wave.ensures c.requires.value c.if-file-gt65536.false _ c.in-Ok.is) c.put_lines.ensures

pub returns-in-Err : goal.returns-in-Err
returns-in-Err c =
    let line = shown_refusal c.read_wave.ensures c.requires.value c.if-file-gt65536.false _ c.in-Err.is c.number.ensures in
    printed_as line c.put_refusal-in-Err.ensures
