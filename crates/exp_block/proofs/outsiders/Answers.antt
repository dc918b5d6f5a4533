-- `exp_block::outsiders` meets its contract. Assumes nothing.
use borrow.Author.Rules.{rules}
use native.Mathlib.Omega.{arith}
use mathlib.Core.Path.{◌≡◌, sym, subst}
use mathlib.Core.Logic.{◌⊎◌, inl, inr}
use native.Mathlib.Nat.{eq-or-lt_of_le}
use Prim.Native.Nat.{ℕ, ◌+◌, ◌-◌, ◌≤◌, ◌<◌, ◌*◌}
use lib.ListN.{get_or}
use lib.Ieee.{nan}
use Rattle.exp_fall.specs.Falling.{Falling}
use Rattle.exp_block.proofs.outsiders.Goals as goal

none : (a k : ℕ) → a ≤ k → k < a → ⊥
none a k h l = omega arith

more : (P : ℕ → Type 0) (a i : ℕ) → ((k : ℕ) → a ≤ k → k < i → P k) → P i → (k : ℕ) → a ≤ k → k < i + 1 → P k
more P a i f p k h l = pick (eq-or-lt_of_le (less l))
  where
    less : k < i + 1 → k ≤ i
    less l = omega arith

    pick : (k ≡ i) ⊎ (k < i) → P k
    pick (inl e) = subst P (sym e) p
    pick (inr g) = f k h g

pub loop-i-init : goal.loop-i-init
loop-i-init c = (omega arith, omega arith, λ e k h l. absurd (none _ k h l))

pub overflow_add-bad : goal.overflow_add-bad
overflow_add-bad c = omega (arith, c.outside_f32-bad.ensures.0)

pub loop-i-preserved : goal.loop-i-preserved
loop-i-preserved c =
    let z = c.args.x.now in
    let one = c.outside_f32-bad.ensures in
    (omega arith, omega (arith, one.0), λ e. more (λ k. Falling (get_or z k nan)) _ _ (c.loop-i.invariant.2 (omega arith)) (one.1 (omega arith)))

pub returns : goal.returns
returns c = λ e k h l. c.loop-i.invariant.2 e k h (omega arith)
