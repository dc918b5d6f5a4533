-- `text_wave::frames::write_frames` meets its contract. Assumes nothing.
use mathlib.Core.Path.{sym, ap, ◌∙◌}
use lib.ListN.{length, take, length-map}
use Rattle.text_listing.specs.Lines.{frame_bits}
use borrow.Author.Rules.{rules}
use Rattle.text_wave.proofs.Patterns.{taken}
use Rattle.text_wave.proofs.Filing.{filed_bytes, filed_refusal}
use Rattle.text_wave.proofs.frames.write_frames.Goals as goal

pub slice_bounds-write_wave-end : goal.slice_bounds-write_wave-end
slice_bounds-write_wave-end c =
    let a = c.args in
    sym (ap length (ap (take (length a.frames.now)) c.put_bits.ensures ∙ taken a.frames.now _) ∙ length-map a.frames.now frame_bits)

pub returns-in-Ok : goal.returns-in-Ok
returns-in-Ok c =
    let a = c.args in
    let bits = ap (take (length a.frames.now)) c.put_bits.ensures ∙ taken a.frames.now _ in
    filed_bytes (rw bits at c.write_wave.ensures) _ c.in-Ok.is

pub returns-in-Err : goal.returns-in-Err
returns-in-Err c =
    let a = c.args in
    let bits = ap (take (length a.frames.now)) c.put_bits.ensures ∙ taken a.frames.now _ in
    filed_refusal (rw bits at c.write_wave.ensures) _ c.in-Err.is c.number.ensures
