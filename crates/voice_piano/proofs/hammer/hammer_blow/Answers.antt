-- `voice_piano::hammer::hammer_blow` meets its contract: each call by what it ensures. Assumes nothing.
use Rattle.voice_piano.specs.Hammer.{blow_of}
use Rattle.std.proofs.Common.{rules}
use Rattle.voice_piano.proofs.hammer.hammer_blow.Goals as goal

pub returns : goal.returns
unfolding blow_of
returns c =
    rw (
      c.max_f32.ensures,
      c.clamp_f32-strike.ensures,
      c.clamp_f32-decay.ensures,
      c.clamp_f32-stretch.ensures,
      c.max_f32-f0.ensures,
      c.max_f32-inharm.ensures,
    )
