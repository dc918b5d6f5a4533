-- `kit_classic::cymbals::hiss` meets its contract: the draw by what it ensures. Assumes nothing.
use Rattle.kit_parts.proofs.Generator.{at_state}
use Rattle.kit_classic.specs.Block.{classic_hiss_by}
use Rattle.kit_classic.proofs.cymbals.hiss.Goals as goal

pub returns : goal.returns
unfolding classic_hiss_by
returns c = rw (at_state c.bi-w.ensures.1, c.bi-w.ensures.0)
