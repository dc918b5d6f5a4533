-- `float::order_f64::max_f64` meets its contract. Assumes nothing.
use Rattle.float.proofs.order_f64.max_f64.Goals as goal

pub returns-then-a-b : goal.returns-then-a-b
returns-then-a-b c = simp c.if-a-b.true

pub returns-else-a-b : goal.returns-else-a-b
returns-else-a-b c = simp c.if-a-b.false
