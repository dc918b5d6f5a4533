-- `osc::saw` meets its contract. Assumes nothing.
use borrow.Author.Rules.{rules}
use Rattle.osc.proofs.saw.Goals as goal

pub returns : goal.returns
returns c = rw c.poly_blep.ensures
