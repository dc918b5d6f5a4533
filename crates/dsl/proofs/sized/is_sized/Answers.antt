-- `dsl::sized::is_sized` meets its contract. Assumes nothing.
use Rattle.dsl.proofs.Magnitude.{sized_within, sized_above}
use Rattle.dsl.proofs.sized.is_sized.Goals as goal

pub returns-then-x : goal.returns-then-x
returns-then-x c = sized_within _ c.if-x.true

pub returns : goal.returns
returns c = sized_above _ c.if-x.false
