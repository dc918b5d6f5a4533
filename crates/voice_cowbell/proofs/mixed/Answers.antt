-- `voice_cowbell::mixed` meets its contract. Assumes nothing.
use Rattle.std.proofs.Common.{refl}
use Rattle.voice_cowbell.specs.Block.{cowbell_mix_at}
use Rattle.voice_cowbell.proofs.mixed.Goals as goal

pub returns : goal.returns
unfolding cowbell_mix_at
returns c = refl
