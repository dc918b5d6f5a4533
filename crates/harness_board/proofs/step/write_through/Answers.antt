-- `harness_board::step::write_through` meets its contract. Assumes nothing.
use mathlib.Core.Path.{◌∙◌}
use Rattle.harness_board.proofs.step.write_through.Goals as goal

pub returns : goal.returns
returns c = c.write.ensures ∙ rw c.copy_bytes.ensures
