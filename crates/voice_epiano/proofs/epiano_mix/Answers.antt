-- `voice_epiano::epiano_mix` meets its contract. Assumes nothing.
use Rattle.std.proofs.Common.{refl}
use Rattle.voice_epiano.specs.Block.{epiano_mix}
use Rattle.voice_epiano.proofs.epiano_mix.Goals as goal

pub returns : goal.returns
unfolding epiano_mix
returns c = refl
