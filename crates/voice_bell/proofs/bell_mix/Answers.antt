-- `voice_bell::bell_mix` meets its contract. Assumes nothing.
use mathlib.Core.Path.{refl}
use Rattle.voice_bell.specs.Block.{bell_mix, bell_mix_at}
use borrow.Author.Rules.{rules}
use Rattle.voice_bell.proofs.bell_mix.Goals as goal

pub returns : goal.returns
unfolding bell_mix bell_mix_at
returns c = refl
