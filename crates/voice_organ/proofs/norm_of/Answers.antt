-- `voice_organ::norm_of` meets its contract. Assumes nothing.
use mathlib.Core.Path.{refl}
use Rattle.voice_organ.proofs.norm_of.Goals as goal

pub returns : goal.returns
returns c = refl
