-- `kit_acoustic::clap::burst_argument` meets its contract. Assumes nothing.
use mathlib.Core.Path.{refl}
use Rattle.kit_acoustic.specs.Block.{burst_argument}
use Rattle.kit_acoustic.proofs.clap.burst_argument.Goals as goal

pub returns : goal.returns
unfolding burst_argument
returns c = refl
