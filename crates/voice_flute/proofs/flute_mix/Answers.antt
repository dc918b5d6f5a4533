-- `voice_flute::flute_mix` meets its contract. Assumes nothing.
use Rattle.std.proofs.Common.{refl}
use Rattle.voice_flute.specs.Block.{flute_mix}
use Rattle.voice_flute.proofs.flute_mix.Goals as goal

pub returns : goal.returns
unfolding flute_mix
returns c = refl
