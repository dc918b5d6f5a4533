-- `text_voice_line::sound_of` meets its contract. Assumes nothing.
use Rattle.text_voice_line.proofs.Sounds.{knobs_few, kinds_length, bits_few, bits_length, sound_none, sound_read}
use native.Mathlib.Omega.{arith}
use Rattle.text_voice_line.specs.Voice.{sound_of}
use Rattle.text_lines.proofs.Small.{field_small}
use Rattle.text_voice_line.proofs.sound_of.Goals as goal

pub returns-in_err-duty : goal.returns-in_err-duty
unfolding sound_of
returns-in_err-duty c = rw (c.from_residual.ensures, ← (rw c.in_err-duty.was at c.field.ensures))

pub returns-in_err-style : goal.returns-in_err-style
unfolding sound_of
returns-in_err-style c =
    rw (c.from_residual-in_err-style.ensures, ← (rw c.in_ok-duty.was at c.field.ensures), ← (rw c.in_err-style.was at c.style_field.ensures))

pub slice_bounds-kinds-end : goal.slice_bounds-kinds-end
slice_bounds-kinds-end c = knobs_few c.args.place _ c.knob_count-k.ensures

pub slice_bounds-ending-end : goal.slice_bounds-ending-end
slice_bounds-ending-end c = kinds_length c.args.place _ c.knob_count-k.ensures

pub ending-requires : goal.ending-requires
ending-requires c =
    let l = kinds_length c.args.place _ c.knob_count-k.ensures in
    let h = knobs_few c.args.place _ c.knob_count-k.ensures in
    omega arith

pub returns-in_err-next : goal.returns-in_err-next
returns-in_err-next c =
    let duty = rw c.in_ok-duty.was at c.field.ensures in
    let style = rw c.in_ok-style.was at c.style_field.ensures in
    rw c.from_residual-in_err-next.ensures
    (sound_none c.args.place _ c.knob_count-k.ensures c.args.wave _ duty style c.ends.ensures (rw c.in_err-next.was at c.ending.ensures.result_after))

pub slice_bounds-bits-end : goal.slice_bounds-bits-end
slice_bounds-bits-end c =
    bits_few c.args.place _ c.knob_count-k.ensures c.ending.new.values c.ending.auto.values

pub slice_bounds-voice_of-end : goal.slice_bounds-voice_of-end
slice_bounds-voice_of-end c =
    bits_length c.args.place _ c.knob_count-k.ensures c.ending.new.values c.ending.auto.values

pub overflow_cast-duty : goal.overflow_cast-duty
overflow_cast-duty c =
    let h = field_small _ c.args.at c.args.s.now c.in_ok-duty.was c.field.ensures in
    omega arith

pub returns : goal.returns
returns c =
    let duty = rw c.in_ok-duty.was at c.field.ensures in
    let style = rw c.in_ok-style.was at c.style_field.ensures in
    let next = rw c.in_ok-next.was at c.ending.ensures.result_after in
    rw (c.f32_from_bits.ensures, c.voice_of.ensures)
    (sound_read c.args.place _ c.knob_count-k.ensures c.args.wave _ duty style c.ends.ensures c.ending.new.values next)
