-- `tanh_block::block::outsiders` meets its contract. Assumes nothing.
use borrow.Author.Rules.{rules}
use native.Mathlib.Omega.{arith}
use mathlib.Core.Path.{◌≡◌}
use borrow.Author.Count.{below_more}
use Prim.Native.Nat.{ℕ, ◌-◌, ◌≤◌, ◌<◌, ◌*◌}
use lib.ListN.{get_or}
use lib.Ieee.{nan}
use Rattle.tanh_block.specs.Inner.{Inner}
use Rattle.tanh_block.proofs.block.outsiders.Goals as goal

none : (k : ℕ) → k < 0 → ⊥
none k l = omega arith

pub loop-i-init : goal.loop-i-init
loop-i-init c = (omega arith, omega arith, λ e k l. absurd (none k l))

pub overflow_add-bad : goal.overflow_add-bad
overflow_add-bad c = omega (arith, c.outside_f32-bad.ensures.0, c.requires)

pub loop-i-preserved : goal.loop-i-preserved
loop-i-preserved c = (omega arith, omega (arith, c.outside_f32-bad.ensures.0), λ e. below_more _ _ (c.loop-i.invariant.2 (omega arith)) (c.outside_f32-bad.ensures.1 (omega arith)))

pub returns : goal.returns
returns c = λ e k l. c.loop-i.invariant.2 e k (omega arith)
