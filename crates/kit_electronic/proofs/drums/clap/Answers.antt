-- `kit_electronic::drums::clap` meets its contract: the draw by what it ensures. Assumes nothing.
use Rattle.kit_parts.proofs.Generator.{at_state}
use Rattle.kit_electronic.specs.Block.{electronic_clap_by}
use Rattle.kit_electronic.proofs.drums.clap.Goals as goal

pub returns : goal.returns
unfolding electronic_clap_by
returns c =
    rw (at_state c.bi-w.ensures.1, c.bi-w.ensures.0)
