-- `voice_piano::piano::piano_at` meets its contract. Assumes nothing.
use Rattle.voice_piano.specs.Piano.{piano_at}
use Rattle.std.proofs.Common.{rules}
use Rattle.voice_piano.proofs.piano.piano_at.Goals as goal

pub returns : goal.returns
unfolding piano_at
returns c =
    let d = c.thump-d.ensures in
    let t = c.frame_time.ensures in
    record {
      x_len_2 = c.wires_at-w.ensures.x_len_2;
      sample_value = rw (d.0, t, c.wires_at-w.ensures.sum_value.0);
      state_value = rw (d.1, t, c.wires_at-w.ensures.sum_value.1, c.phase_step-dt.ensures);
    }
