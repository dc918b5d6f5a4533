-- `voice_mallet::mallet_mix_at` meets its contract. Assumes nothing.
use Rattle.voice_mallet.specs.Block.{mallet_mix_at}
use Rattle.voice_mallet.proofs.mallet_mix_at.Goals as goal

pub returns : goal.returns
unfolding mallet_mix_at
returns c = c.mallet_mix.ensures
