-- `float::order::clamp_f32` meets its contract. Assumes nothing.
use Rattle.float.proofs.order.clamp_f32.Goals as goal

pub returns-then-x-low : goal.returns-then-x-low
returns-then-x-low c = simp c.if-x-low.true

pub returns-then-x-high : goal.returns-then-x-high
returns-then-x-high c = simp (c.if-x-low.false, c.if-x-high.true)

pub returns : goal.returns
returns c = simp (c.if-x-low.false, c.if-x-high.false)
