-- `voice_mallet::mallet_mix` meets its contract. Assumes nothing.
use Rattle.std.proofs.Common.{refl}
use Rattle.voice_mallet.specs.Block.{mallet_mix}
use Rattle.voice_mallet.proofs.mallet_mix.Goals as goal

pub returns : goal.returns
unfolding mallet_mix
returns c = refl
