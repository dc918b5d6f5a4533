-- `groove::timing::groove_note` meets its contract. Assumes nothing.
use Rattle.std.proofs.Common.{rules}
use Rattle.groove.specs.Timing.{groove_of}
use Rattle.groove.proofs.timing.groove_note.Goals as goal

pub returns : goal.returns
unfolding groove_of
returns c =
    rw (
      c.clamp_f32.ensures,
      c.f32_to_usize-start.ensures,
      c.max_f32.ensures,
      c.nearest_u32_to_f32.ensures,
      c.humanized-human.ensures.delay_value,
      c.humanized-human.ensures.gain_value,
      c.swing_delay-delay.ensures,
    )
