-- `kit_acoustic::clap::clap_mix` meets its contract. Assumes nothing.
use Rattle.kit_acoustic.specs.Block.{clap_mix}
use Rattle.kit_acoustic.proofs.clap.clap_mix.Goals as goal

pub returns : goal.returns
unfolding clap_mix
returns c = rw c.min_f32.ensures
