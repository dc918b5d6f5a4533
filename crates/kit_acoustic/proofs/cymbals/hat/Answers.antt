-- `kit_acoustic::cymbals::hat` meets its contract: the draw by what it ensures. Assumes nothing.
use Rattle.kit_parts.proofs.Generator.{at_state}
use Rattle.kit_acoustic.specs.Block.{acoustic_hat_by}
use Rattle.kit_acoustic.proofs.cymbals.hat.Goals as goal

pub returns : goal.returns
unfolding acoustic_hat_by
returns c =
    rw (at_state c.bi-w.ensures.1, c.bi-w.ensures.0)
