-- `voice_piano::piano::loudness` meets its contract: each call by what it ensures. Assumes nothing.
use Rattle.voice_piano.specs.Piano.{norm_of}
use Rattle.std.proofs.Common.{rules}
use Rattle.voice_piano.proofs.piano.loudness.Goals as goal

pub returns : goal.returns
unfolding norm_of
returns c = rw (c.max_f32.ensures, c.amp_sum.ensures)
