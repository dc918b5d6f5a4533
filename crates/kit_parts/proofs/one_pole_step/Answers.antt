-- `kit_parts::one_pole_step` meets its contract. Assumes nothing.
use Rattle.kit_parts.specs.Parts.{coefficient}
use Rattle.kit_parts.proofs.one_pole_step.Goals as goal

pub returns : goal.returns
unfolding coefficient
returns c = rw c.exp.ensures
