-- `kit_808::levels::clap_level` meets its contract: the bursts by what their call ensures. Assumes nothing.
use Rattle.kit_808.specs.Block.{eight08_clap_level}
use Rattle.kit_808.proofs.levels.clap_level.Goals as goal

pub returns : goal.returns
unfolding eight08_clap_level
returns c = rw c.burst.ensures
