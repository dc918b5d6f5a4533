-- How many binary digits a number has above its p lowest. Assumes nothing.
use mathlib.Core.Path.{◌≡◌}
use mathlib.Core.Logic.{inl, inr}
use Prim.Native.Nat.{ℕ, ◌+◌, ◌-◌, ◌^◌, ◌≤◌, ◌<◌}
use native.Mathlib.Nat.{lt_of_lt_of_le, lt_of_not-le, not-le_of_lt, eq-zero-or-pos}
use native.Mathlib.Omega.{arith}
use lib.Pow.{pow_mono}
use lib.Ieee.{size}
use lib.Ieee.Digits.{size-lt, size-le}

pub size_gt : (n j : ℕ) → 2 ^ j ≤ n → j < size n
size_gt n j h = lt_of_not-le (λ (g : size n ≤ j). not-le_of_lt (lt_of_lt_of_le (size-lt n) (pow_mono g)) h)

-- k of them, of a w whose leading digit is at place p - 1 + k, or lower where k is 0
pub size_at : (p w k : ℕ) → 0 < p → w < 2 ^ (p + k) → (0 < k → 2 ^ (p - 1 + k) ≤ w) → size w - p ≡ k
size_at p w k P h g = elim (eq-zero-or-pos k) [
  | inl z ↦ none (size w) p k z (size-le w (p + k) h)
  | inr l ↦ both (size w) p k P (size-le w (p + k) h) (size_gt w (p - 1 + k) (g l))
]
  where
    none : (z p k : ℕ) → k ≡ 0 → z ≤ p + k → z - p ≡ k
    none z p k e h = omega arith

    both : (z p k : ℕ) → 0 < p → z ≤ p + k → p - 1 + k < z → z - p ≡ k
    both z p k P h g = omega arith
