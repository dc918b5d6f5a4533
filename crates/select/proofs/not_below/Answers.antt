-- `select::not_below` meets its contract. Assumes nothing.
use Prim.Native.Nat.{ℕ}
use mathlib.Core.Path.{◌≡◌}
use native.Mathlib.Omega.{arith}
use Rattle.select.proofs.not_below.Goals as goal

not_zero : ◌≡◌ {A = ℕ} 1 0 → ⊥
not_zero e = omega arith

pub returns-then-x-limit : goal.returns-then-x-limit
returns-then-x-limit c = (omega arith, λ e. c.if-x-limit.true, rw c.if-x-limit.true)

pub returns-else-x-limit : goal.returns-else-x-limit
returns-else-x-limit c = (omega arith, λ e. absurd (not_zero e), rw c.if-x-limit.false)
