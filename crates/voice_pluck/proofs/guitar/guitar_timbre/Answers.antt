-- `voice_pluck::guitar::guitar_timbre` meets its contract: each call by what it ensures. Assumes nothing.
use Rattle.voice_pluck.specs.Guitar.{timbre_of}
use Rattle.std.proofs.Common.{rules}
use Rattle.voice_pluck.proofs.guitar.guitar_timbre.Goals as goal

pub returns : goal.returns
unfolding timbre_of
returns c =
    rw (
      c.resonance-back.ensures,
      c.resonance-top.ensures,
      c.resonance-air.ensures,
      c.exp-radius.ensures,
      c.max_f32-damp.ensures,
      c.max_f32-bright.ensures,
    )
