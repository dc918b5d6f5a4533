-- `dsl::knobs::knobs_sized` meets its contract. Assumes nothing.
use borrow.Author.Rules.{rules}
use Rattle.dsl.proofs.knobs.knobs_sized.Goals as goal

pub returns : goal.returns
returns c = c.all_sized.ensures
