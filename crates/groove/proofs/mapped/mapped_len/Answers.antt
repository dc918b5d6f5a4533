-- `groove::mapped::mapped_len` meets its contract. Assumes nothing.
use Rattle.std.proofs.Common.{arith, rules}
use Rattle.groove.specs.Mapped.{mapped_length}
use Rattle.groove.proofs.mapped.mapped_len.Goals as goal

pub returns-then-end-start : goal.returns-then-end-start
unfolding mapped_length
returns-then-end-start c = omega arith

pub returns-then-n-lt1 : goal.returns-then-n-lt1
unfolding mapped_length
returns-then-n-lt1 c = omega arith

pub returns-then-n-whole : goal.returns-then-n-whole
unfolding mapped_length
returns-then-n-whole c = omega arith

pub returns-else-n-whole : goal.returns-else-n-whole
unfolding mapped_length
returns-else-n-whole c = omega arith
