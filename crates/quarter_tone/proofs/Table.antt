-- A rule of every number below n, by one test that the checker computes. Assumes nothing.
use Prim.Native.Nat.{ℕ, zero, suc, ◌<◌}
use mathlib.Core.Path.{sym, subst}
use mathlib.Core.Bool.{Bool, true, false}
use mathlib.Core.Logic.{inl, inr}
use native.Mathlib.Nat.{eq-or-lt_of_le, le_of_suc-le-suc, not-suc-le-zero}
use lib.Dec.{T, ltb, ltb→lt}

abbrev pub both : Bool → Bool → Bool
both true b = b
both false b = false

pub left : (a b : Bool) → T (both a b) → T a
left true b t = tt
left false b t = t

pub right : (a b : Bool) → T (both a b) → T b
right true b t = t
right false b t = absurd t

-- x lies between two numbers
abbrev pub between : ℕ → ℕ → ℕ → Bool
between low x high = both (ltb low x) (ltb x high)

pub lies_between : (low x high : ℕ) → T (between low x high) → (low < x) × (x < high)
lies_between low x high t = (ltb→lt low x (left (ltb low x) (ltb x high) t), ltb→lt x high (right (ltb low x) (ltb x high) t))

abbrev passes : (ℕ → Bool) → ℕ → Bool
passes test zero = true
passes test (suc n) = both (test n) (passes test n)

-- the test passes at each number below n: `computed` is `tt`
pub record Passes (test : ℕ → Bool) (n : ℕ) : Type 0 where
  pub computed : T (passes test n)

pub at : {test : ℕ → Bool} {n : ℕ} → Passes test n → (k : ℕ) → k < n → T (test k)
at {test} {n} p = go n p.computed
  where
    go : (n : ℕ) → T (passes test n) → (k : ℕ) → k < n → T (test k)
    go zero t k h = absurd (not-suc-le-zero h)
    go (suc n) t k h = elim (eq-or-lt_of_le (le_of_suc-le-suc h)) [
      | inl e ↦ subst (λ (m : ℕ). T (test m)) (sym e) (left (test n) (passes test n) t)
      | inr l ↦ go n (right (test n) (passes test n) t) k l
    ]
