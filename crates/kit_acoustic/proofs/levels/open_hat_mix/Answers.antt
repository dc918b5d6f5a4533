-- `kit_acoustic::levels::open_hat_mix` meets its contract. Assumes nothing.
use mathlib.Core.Path.{refl}
use Rattle.kit_acoustic.specs.Block.{open_hat_mix}
use Rattle.kit_acoustic.proofs.levels.open_hat_mix.Goals as goal

pub returns : goal.returns
unfolding open_hat_mix
returns c = refl
