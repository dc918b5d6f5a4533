-- The whole root of a number, and the rounded root of a fraction. Assumes nothing.
use mathlib.Core.Path.{◌≡◌, sym, ap, ◌∙◌, subst}
use Prim.Native.Nat.{ℕ, zero, suc, ◌+◌, ◌-◌, ◌*◌, ◌/◌, ◌%◌, ◌^◌, ◌≤◌, ◌<◌, zero-le}
use native.Mathlib.Nat.{le_trans, le_of_eq, le_refl, le_antisymm, le_of_suc-le-suc, lt_of_lt_of_le, lt_of_not-le, not-le_of_lt, mul-mul-mul_comm, mul-one, one-mul, mul-le-mul, mul-add}
use native.Mathlib.Nat.{add-mul, div-lt_iff_lt-mul, zero-lt-suc, pow-suc, two-pow-succ}
use native.Mathlib.Omega.{arith}
use mathlib.Core.Bool.{Bool, true, false, not, cond}
use lib.Dec.{T, leb, leb→le, nleb→lt}
use lib.Pow.{pow_pos}
use lib.Ieee.{low, size}
use lib.Ieee.Digits.{size-lt}
use Rattle.ieee.proofs.Rounding.{unit_is}
use Rattle.ieee.specs.Root.{root_in, root}

-- r is the whole root of n
abbrev pub IsRoot : ℕ → ℕ → Type 0
IsRoot r n = (r * r ≤ n) × (n < (r + 1) * (r + 1))

-- ---- squares, as sums
pub twice_square : (r : ℕ) → r * 2 * (r * 2) ≡ r * r * 4
twice_square r = mul-mul-mul_comm r 2 r 2

pub next_square : (r : ℕ) → (r + 1) * (r + 1) ≡ r * r + r * 2 + 1
next_square r = mul-add (r + 1) r 1 ∙ (λ i. add-mul r 1 r i + mul-one (r + 1) i) ∙ ap (λ (k : ℕ). r * r + k + (r + 1)) (one-mul r) ∙ sum (r * r) r
  where
    sum : (a r : ℕ) → a + r + (r + 1) ≡ a + r * 2 + 1
    sum a r = omega arith

step_down : (r n : ℕ) → r * r ≤ n / 4 → r * 2 * (r * 2) ≤ n
step_down r n h = subst (λ (k : ℕ). k ≤ n) (sym (twice_square r)) (go (r * r) n h)
  where
    go : (a n : ℕ) → a ≤ n / 4 → a * 4 ≤ n
    go a n h = omega arith

step_up : (r n : ℕ) → n / 4 < (r + 1) * (r + 1) → n < (r * 2 + 1 + 1) * (r * 2 + 1 + 1)
step_up r n h = subst (λ (k : ℕ). n < k * k) (even r) (subst (λ (k : ℕ). n < k) (sym (twice_square (r + 1))) (go ((r + 1) * (r + 1)) n h))
  where
    go : (a n : ℕ) → n / 4 < a → n < a * 4
    go a n h = omega arith

    even : (r : ℕ) → (r + 1) * 2 ≡ r * 2 + 1 + 1
    even r = omega arith

quarter : (d n : ℕ) → n < 4 ^ suc d → n / 4 < 4 ^ d
quarter d n h = (div-lt_iff_lt-mul (zero-lt-suc 3)).1 (subst (λ (k : ℕ). n < k) (pow-suc 4 d) h)

root_in_is : (d n : ℕ) → n < 4 ^ d → IsRoot (root_in d n) n
unfolding root_in
root_in_is zero n h = (zero-le, h)
root_in_is (suc d) n h = go (root_in d (n / 4)) (root_in_is d (n / 4) (quarter d n h))
  where
    pick : (r : ℕ) (b : Bool) → (T b → (r + 1) * (r + 1) ≤ n) → (T (not b) → n < (r + 1) * (r + 1)) → r * r ≤ n → n < (r + 1 + 1) * (r + 1 + 1) → IsRoot (cond b (r + 1) r) n
    pick r true p q a b = (p tt, b)
    pick r false p q a b = (a, q tt)

    go : (r : ℕ) → IsRoot r (n / 4) → IsRoot (cond (leb ((r * 2 + 1) * (r * 2 + 1)) n) (r * 2 + 1) (r * 2)) n
    go r i = pick (r * 2) (leb ((r * 2 + 1) * (r * 2 + 1)) n) (leb→le ((r * 2 + 1) * (r * 2 + 1)) n) (nleb→lt ((r * 2 + 1) * (r * 2 + 1)) n) (step_down r n i.0) (step_up r n i.1)

two_four : (d : ℕ) → 2 ^ d ≤ 4 ^ d
two_four zero = le_refl 1
two_four (suc d) = le_trans (le_of_eq (pow-suc 2 d)) (le_trans (mul-le-mul (two_four d) (le_add 2)) (le_of_eq (sym (pow-suc 4 d))))
  where
    le_add : (n : ℕ) → n ≤ n + 2
    le_add n = omega arith

pub root_is : (n : ℕ) → IsRoot (root n) n
unfolding root
root_is n = root_in_is (size n) n (lt_of_lt_of_le (size-lt n) (two_four (size n)))

pub root_le : (r t n : ℕ) → r * r ≤ n → n < (t + 1) * (t + 1) → r ≤ t
root_le r t n h k = le_of_suc-le-suc (lt_of_not-le (λ (g : suc t ≤ r). not-le_of_lt k (le_trans (mul-le-mul (below g) (below g)) h)))
  where
    below : suc t ≤ r → t + 1 ≤ r
    below g = omega arith

pub root_unique : (r n : ℕ) → IsRoot r n → r ≡ root n
root_unique r n i = le_antisymm (root_le r (root n) n i.0 (root_is n).1) (root_le (root n) r n (root_is n).0 i.1)

-- ---- the root a digit at a time: after i of 24 digits r is the root up to 2 ^ (24 - i)
pub record Found (m r i : ℕ) : Type 0 where
  pub at : i ≤ 24
  pub low : r * r ≤ m
  pub high : m < (r + 2 ^ (24 - i)) * (r + 2 ^ (24 - i))
  pub room : r + 2 ^ (24 - i) ≤ 2 ^ 24

halves : (i : ℕ) → i < 24 → 2 ^ (24 - i) ≡ 2 ^ (24 - (i + 1)) + 2 ^ (24 - (i + 1))
halves i h = ap (λ (k : ℕ). 2 ^ k) (one_less i h) ∙ two-pow-succ (24 - (i + 1))
  where
    one_less : (i : ℕ) → i < 24 → 24 - i ≡ suc (24 - (i + 1))
    one_less i h = omega arith

same_place : (i : ℕ) → 23 - i ≡ 24 - (i + 1)
same_place i = omega arith

-- u is the digit's weight, as the code has it
pub weight : (i : ℕ) → 1 * 2 ^ (23 - i) % 2 ^ 64 ≡ 2 ^ (24 - (i + 1))
weight i = unit_is (23 - i) (small i) ∙ ap (λ (k : ℕ). 2 ^ k) (same_place i)
  where
    small : (i : ℕ) → 23 - i < 64
    small i = omega arith

pub next_room : (m r i u : ℕ) → Found m r i → i < 24 → u ≡ 2 ^ (24 - (i + 1)) → r + u < 2 ^ 24
next_room m r i u f h e = go r u (2 ^ (24 - i)) (2 ^ (24 - (i + 1))) e (halves i h) f.room (pow_pos (24 - (i + 1)))
  where
    go : (r u w v : ℕ) → u ≡ v → w ≡ v + v → r + w ≤ 2 ^ 24 → 0 < v → r + u < 2 ^ 24
    go r u w v e d l p = omega arith

pub set_digit : (m r i u : ℕ) → Found m r i → i < 24 → u ≡ 2 ^ (24 - (i + 1)) → (r + u) * (r + u) ≤ m → Found m (r + u) (i + 1)
set_digit m r i u f h e l =
    let s : r + 2 ^ (24 - i) ≡ r + u + 2 ^ (24 - (i + 1)) = sums r u (2 ^ (24 - i)) (2 ^ (24 - (i + 1))) e (halves i h) in
    record { at = bump i h; low = l; high = subst (λ (k : ℕ). m < k * k) s f.high; room = subst (λ (k : ℕ). k ≤ 2 ^ 24) s f.room }
  where
    sums : (r u w v : ℕ) → u ≡ v → w ≡ v + v → r + w ≡ r + u + v
    sums r u w v e d = omega arith

    bump : (i : ℕ) → i < 24 → i + 1 ≤ 24
    bump i h = omega arith

pub clear_digit : (m r i u : ℕ) → Found m r i → i < 24 → u ≡ 2 ^ (24 - (i + 1)) → m < (r + u) * (r + u) → Found m r (i + 1)
clear_digit m r i u f h e l =
    record { at = bump i h; low = f.low; high = subst (λ (k : ℕ). m < (r + k) * (r + k)) e l; room = less r (2 ^ (24 - i)) (2 ^ (24 - (i + 1))) (halves i h) f.room }
  where
    less : (r w v : ℕ) → w ≡ v + v → r + w ≤ 2 ^ 24 → r + v ≤ 2 ^ 24
    less r w v d l = omega arith

    bump : (i : ℕ) → i < 24 → i + 1 ≤ 24
    bump i h = omega arith

pub last_digit : (m r i : ℕ) → Found m r i → 24 ≤ i → IsRoot r m
last_digit m r i f h = (f.low, subst (λ (k : ℕ). m < (r + k) * (r + k)) (ap (λ (k : ℕ). 2 ^ k) (none i h)) f.high)
  where
    none : (i : ℕ) → 24 ≤ i → 24 - i ≡ 0
    none i h = omega arith

pub first_digit : (m : ℕ) → m < 2 ^ 48 → Found m 0 0
first_digit m h = record { at = zero-le; low = zero-le; high = h; room = le_refl (2 ^ 24) }
