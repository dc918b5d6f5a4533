-- The loops of `exp_block::outsiders`.
use borrow.Author.Rules.{rules}
use native.Mathlib.Omega.{arith}
use mathlib.Core.Path.{◌≡◌, sym, subst}
use mathlib.Core.Logic.{◌⊎◌, inl, inr}
use native.Mathlib.Nat.{eq-or-lt_of_le}
use Prim.Native.Nat.{ℕ, ◌+◌, ◌-◌, ◌≤◌, ◌<◌, ◌*◌}
use lib.ListN.{get_or}
use lib.Ieee.{nan}
use Rattle.exp_fall.specs.Falling.{Falling}
use Rattle.exp_block.proofs.outsiders.Given as goal

abbrev pub invariant-loop-i : goal.invariant-loop-i
invariant-loop-i l = (l.i ≤ 64) × (l.bad ≤ l.i * 3) × (l.bad ≡ 0 → (k : ℕ) → l.first ≤ k → k < l.i → Falling (get_or l.x k nan))
