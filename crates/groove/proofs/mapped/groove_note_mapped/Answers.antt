-- `groove::mapped::groove_note_mapped` meets its contract. Assumes nothing.
use Rattle.groove.specs.Mapped.{mapped_of}
use Rattle.std.proofs.Common.{rules}
use Rattle.groove.proofs.mapped.groove_note_mapped.Goals as goal

pub returns : goal.returns
unfolding mapped_of
returns c =
    rw (
      c.clamp_f32.ensures,
      c.frame_at-2.ensures,
      c.frame_at.ensures,
      c.humanized_mapped-human.ensures.delay_value,
      c.humanized_mapped-human.ensures.gain_value,
      c.swing_delay_mapped-delay.ensures,
      c.step_frames-dur.ensures,
      c.span_at-span.ensures,
      c.widened-2.ensures,
      c.note_end_step.ensures,
      c.widened.ensures,
      c.widened-sr.ensures,
      c.widened-spb.ensures,
    )
