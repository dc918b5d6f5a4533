-- `voice_pluck::guitar::ring` meets its contract. Assumes nothing.
use Rattle.std.proofs.Common.{refl}
use Rattle.voice_pluck.specs.Guitar.{rung}
use Rattle.voice_pluck.proofs.guitar.ring.Goals as goal

pub returns : goal.returns
unfolding rung
returns c = refl
