-- The loops of `tanh_block::block::outsiders`.
use borrow.Author.Rules.{rules}
use native.Mathlib.Omega.{arith}
use mathlib.Core.Path.{◌≡◌}
use borrow.Author.Count.{below_more}
use Prim.Native.Nat.{ℕ, ◌-◌, ◌≤◌, ◌<◌, ◌*◌}
use lib.ListN.{get_or}
use lib.Ieee.{nan}
use Rattle.tanh_block.specs.Inner.{Inner}
use Rattle.tanh_block.proofs.block.outsiders.Given as goal

abbrev pub invariant-loop-i : goal.invariant-loop-i
invariant-loop-i l = (l.i ≤ l.n) × (l.bad ≤ l.i * 4) × (l.bad ≡ 0 → (k : ℕ) → k < l.i → Inner (get_or l.x k nan))
