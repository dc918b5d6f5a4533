-- `kit_classic::drums::noise` meets its contract: the draw by what it ensures. Assumes nothing.
use Rattle.kit_parts.proofs.Generator.{at_state}
use Rattle.kit_classic.specs.Block.{classic_noise_by}
use Rattle.kit_classic.proofs.drums.noise.Goals as goal

pub returns : goal.returns
unfolding classic_noise_by
returns c = rw (at_state c.bi-w.ensures.1, c.bi-w.ensures.0)
