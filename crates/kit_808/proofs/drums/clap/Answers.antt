-- `kit_808::drums::clap` meets its contract: the draw by what it ensures. Assumes nothing.
use Rattle.kit_parts.proofs.Generator.{at_state}
use Rattle.kit_808.specs.Block.{eight08_clap_by}
use Rattle.kit_808.proofs.drums.clap.Goals as goal

pub returns : goal.returns
unfolding eight08_clap_by
returns c =
    let drawn = c.bi-w.ensures in
    rw (at_state drawn.1, drawn.0)
