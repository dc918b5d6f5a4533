-- `voice_flute::flute_mix_at` meets its contract. Assumes nothing.
use Rattle.voice_flute.specs.Block.{flute_mix_at}
use Rattle.voice_flute.proofs.flute_mix_at.Goals as goal

pub returns : goal.returns
unfolding flute_mix_at
returns c = c.flute_mix.ensures
