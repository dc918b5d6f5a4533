-- `tono::exponential::tono_exp` meets its contract. Assumes nothing.
use borrow.Author.Rules.{rules}
use Rattle.tono.proofs.exponential.tono_exp.Goals as goal

pub returns : goal.returns
returns c = c.exp.ensures
