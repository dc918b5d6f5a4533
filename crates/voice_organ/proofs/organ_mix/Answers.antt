-- `voice_organ::organ_mix` meets its contract. Assumes nothing.
use mathlib.Core.Path.{refl}
use Rattle.voice_organ.specs.Block.{organ_mix, organ_mix_at}
use borrow.Author.Rules.{rules}
use Rattle.voice_organ.proofs.organ_mix.Goals as goal

pub returns : goal.returns
unfolding organ_mix organ_mix_at
returns c = refl
