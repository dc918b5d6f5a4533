-- `brass_opening::cutoff` meets its contract. Assumes nothing.
use borrow.Author.Rules.{rules}
use Rattle.brass_opening.proofs.cutoff.Goals as goal

pub returns : goal.returns
returns c = rw c.min_f32.ensures
