-- `voice_pluck::guitar::resonance` meets its contract: each call by what it ensures. Assumes nothing.
use Rattle.voice_pluck.specs.Guitar.{mode_of}
use Rattle.std.proofs.Common.{rules}
use Rattle.voice_pluck.proofs.guitar.resonance.Goals as goal

pub returns : goal.returns
unfolding mode_of
returns c = rw (c.sin.ensures, c.cos.ensures)
