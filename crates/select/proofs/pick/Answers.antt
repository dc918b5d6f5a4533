-- `select::pick` meets its contract. Assumes nothing.
use mathlib.Core.Path.{refl}
use Rattle.select.proofs.pick.Goals as goal

pub returns-then-t : goal.returns-then-t
returns-then-t c = rw c.if-t.true refl

pub returns-else-t : goal.returns-else-t
returns-else-t c = rw c.if-t.false refl
