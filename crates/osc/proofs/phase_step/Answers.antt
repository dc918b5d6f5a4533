-- `osc::phase_step` meets its contract. Assumes nothing.
use borrow.Author.Rules.{rules}
use Rattle.osc.proofs.phase_step.Goals as goal

pub returns : goal.returns
returns c = rw c.max_f32.ensures
