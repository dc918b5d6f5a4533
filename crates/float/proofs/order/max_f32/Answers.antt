-- `float::order::max_f32` meets its contract. Assumes nothing.
use Rattle.float.proofs.order.max_f32.Goals as goal

pub returns-then-a-b : goal.returns-then-a-b
returns-then-a-b c = simp c.if-a-b.true

pub returns-else-a-b : goal.returns-else-a-b
returns-else-a-b c = simp c.if-a-b.false
