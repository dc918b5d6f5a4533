-- `voice_epiano::epiano_mix_at` meets its contract. Assumes nothing.
use Rattle.voice_epiano.specs.Block.{epiano_mix_at}
use Rattle.voice_epiano.proofs.epiano_mix_at.Goals as goal

pub returns : goal.returns
unfolding epiano_mix_at
returns c = c.epiano_mix.ensures
