-- The rounded root from the whole root of 47 or 48 digits at an even exponent, and the cases of an `f32`. Assumes nothing.
use Rattle.std.proofs.Common.{◌≡◌, ℕ, ◌+◌, ◌-◌, ◌*◌, ◌/◌, ◌^◌, ◌<◌, ◌≤◌, false, sym, refl, ap, ◌∙◌, subst, le_trans, le_of_eq, lt_of_lt_of_le, mul-le-mul_right, zero-lt-suc, mul_assoc}
use Rattle.std.proofs.Common.{mul_comm, mul-le-mul, mul-le-mul_left, mul-lt-mul_of_pos_right, mul-pos, lt_of_not-le, mul-one, mul_right_comm, not-le_of_lt, mul-div_cancel, add-one, arith}
use Rattle.std.proofs.Common.{pow_pos, pow_mono, pow-add}
use Prim.Native.Nat.{compare, Ordering}
use lib.Ieee.{Float, binary32, size, nearest, units}
use Rattle.ieee.specs.Root.{root, root_round}
use Rattle.ieee.proofs.Digits.{size_at}
use Rattle.ieee.proofs.Rounding.{compare_lt, compare_gt}
use Rattle.ieee.proofs.Roots.{IsRoot, root_is, root_unique, root_le, next_square, twice_square}

-- ---- the digits that are kept
square_pow : (a : ℕ) → 2 ^ a * 2 ^ a ≡ 2 ^ (a + a)
square_pow a = sym (pow-add 2 a a)

root_lt : (n p : ℕ) → n < p * p → root n < p
root_lt n p h = lt_of_not-le (λ (g : p ≤ root n). not-le_of_lt h (le_trans (mul-le-mul g g) (root_is n).0))

root_ge : (n p : ℕ) → p * p ≤ n → p ≤ root n
root_ge n p h = root_le p (root n) n h (root_is n).1

shifted_square : (a j : ℕ) → 2 ^ (a + j) * 2 ^ (a + j) ≡ 2 ^ (a + a) * 2 ^ (j + j)
shifted_square a j = square_pow (a + j) ∙ ap (λ (n : ℕ). 2 ^ n) (sums a j) ∙ pow-add 2 (a + a) (j + j)
  where
    sums : (a j : ℕ) → a + j + (a + j) ≡ a + a + (j + j)
    sums a j = omega arith

dropped : (M K : ℕ) → 2 ^ 46 ≤ M → M < 2 ^ 48 → size (root (M * 2 ^ (K + K))) - 24 ≡ K
dropped M K a b =
    size_at 24 (root (M * 2 ^ (K + K))) K (zero-lt-suc 23)
    (root_lt (M * 2 ^ (K + K)) (2 ^ (24 + K)) (subst (λ (n : ℕ). M * 2 ^ (K + K) < n) (sym (shifted_square 24 K)) (mul-lt-mul_of_pos_right b (pow_pos (K + K)))))
    (λ (l : 0 < K). root_ge (M * 2 ^ (K + K)) (2 ^ (23 + K)) (subst (λ (n : ℕ). n ≤ M * 2 ^ (K + K)) (sym (shifted_square 23 K)) (mul-le-mul_right (2 ^ (K + K)) a)))

-- ---- the rounding
abbrev rounds : (n u q k : ℕ) → Float
rounds n u q k = units binary32 false (nearest q (compare (n * 4) ((q * 2 + 1) * (q * 2 + 1) * u))) k

root_round_is : (num den : ℕ)
    → root_round binary32 num den ≡ (let k = size (root (num * 2 ^ 298 / den)) - 24 in rounds (num * 2 ^ 298) (den * 2 ^ (k + k)) (root (num * 2 ^ 298 / (den * 2 ^ (k + k)))) k)
unfolding root_round
root_round_is num den = refl

module _ (num den M K s : ℕ) (D : 0 < den) (e : num * 2 ^ 298 ≡ M * 2 ^ (K + K) * den) (lo : 2 ^ 46 ≤ M) (hi : M < 2 ^ 48) (r : IsRoot s M) where
  n_is : num * 2 ^ 298 ≡ M * (den * 2 ^ (K + K))
  n_is = e ∙ mul_assoc M (2 ^ (K + K)) den ∙ ap (λ (k : ℕ). M * k) (mul_comm (2 ^ (K + K)) den)

  u_pos : 0 < den * 2 ^ (K + K)
  u_pos = mul-pos D (pow_pos (K + K))

  k_is : size (root (num * 2 ^ 298 / den)) - 24 ≡ K
  k_is = ap (λ (n : ℕ). size (root n) - 24) (ap (λ (n : ℕ). n / den) e ∙ mul-div_cancel (M * 2 ^ (K + K)) D) ∙ dropped M K lo hi

  q_is : root (num * 2 ^ 298 / (den * 2 ^ (K + K))) ≡ s
  q_is = ap root (ap (λ (n : ℕ). n / (den * 2 ^ (K + K))) n_is ∙ mul-div_cancel M u_pos) ∙ sym (root_unique s M r)

  settled : root_round binary32 num den ≡ rounds (num * 2 ^ 298) (den * 2 ^ (K + K)) s K
  settled =
      root_round_is num den
      ∙ ap (λ (k : ℕ). rounds (num * 2 ^ 298) (den * 2 ^ (k + k)) (root (num * 2 ^ 298 / (den * 2 ^ (k + k)))) k) k_is
      ∙ ap (λ (q : ℕ). rounds (num * 2 ^ 298) (den * 2 ^ (K + K)) q K) q_is

  four : num * 2 ^ 298 * 4 ≡ M * 4 * (den * 2 ^ (K + K))
  four = ap (λ (k : ℕ). k * 4) n_is ∙ mul_right_comm M (den * 2 ^ (K + K)) 4

  middle : (s * 2 + 1) * (s * 2 + 1) ≡ s * s * 4 + s * 2 * 2 + 1
  middle = next_square (s * 2) ∙ ap (λ (k : ℕ). k + s * 2 * 2 + 1) (twice_square s)

  pub root_down : M ≤ s * s + s → root_round binary32 num den ≡ units binary32 false s K
  root_down h =
      settled
      ∙ ap (λ (o : Ordering). units binary32 false (nearest s o) K)
      (compare_lt (num * 2 ^ 298 * 4) ((s * 2 + 1) * (s * 2 + 1) * (den * 2 ^ (K + K)))
      (subst (λ (k : ℕ). k < (s * 2 + 1) * (s * 2 + 1) * (den * 2 ^ (K + K))) (sym four) (mul-lt-mul_of_pos_right (subst (λ (k : ℕ). M * 4 < k) (sym middle) (low_side M s (s * s) h)) u_pos)))
    where
      low_side : (M s a : ℕ) → M ≤ a + s → M * 4 < a * 4 + s * 2 * 2 + 1
      low_side M s a h = omega arith

  pub root_up : s * s + s < M → root_round binary32 num den ≡ units binary32 false (s + 1) K
  root_up h =
      settled
      ∙ ap (λ (o : Ordering). units binary32 false (nearest s o) K)
      (compare_gt (num * 2 ^ 298 * 4) ((s * 2 + 1) * (s * 2 + 1) * (den * 2 ^ (K + K)))
      (subst (λ (k : ℕ). (s * 2 + 1) * (s * 2 + 1) * (den * 2 ^ (K + K)) < k) (sym four) (mul-lt-mul_of_pos_right (subst (λ (k : ℕ). k < M * 4) (sym middle) (high_side M s (s * s) h)) u_pos)))
      ∙ ap (λ (k : ℕ). units binary32 false k K) (sym (add-one s))
    where
      high_side : (M s a : ℕ) → a + s < M → a * 4 + s * 2 * 2 + 1 < M * 4
      high_side M s a h = omega arith

-- one place more for an odd exponent
pub evened : (q z b : ℕ) → b < 2 → 2 ^ 46 ≤ q * 2 ^ z → q * 2 ^ z < 2 ^ 47 → (2 ^ 46 ≤ q * 2 ^ (z + b)) × (q * 2 ^ (z + b) < 2 ^ 48)
evened q z b h lo hi =
    let e : q * 2 ^ (z + b) ≡ q * 2 ^ z * 2 ^ b = ap (λ (k : ℕ). q * k) (pow-add 2 z b) ∙ sym (mul_assoc q (2 ^ z) (2 ^ b)) in (
      subst (λ (k : ℕ). 2 ^ 46 ≤ k) (sym e) (le_trans lo (le_trans (le_of_eq (sym (mul-one (q * 2 ^ z)))) (mul-le-mul_left (q * 2 ^ z) (pow_pos b)))),
      subst (λ (k : ℕ). k < 2 ^ 48) (sym e) (lt_of_lt_of_le (mul-lt-mul_of_pos_right hi (pow_pos b)) (le_trans (le_of_eq (sym (pow-add 2 47 b))) (pow_mono {j = 48} (last b h)))),
    )
  where
    last : (b : ℕ) → b < 2 → 47 + b ≤ 48
    last b h = omega arith

pub exponents : (q k z b K : ℕ) → k + 298 ≡ z + b + (K + K) + 149 → q * 2 ^ k * 2 ^ 298 ≡ q * 2 ^ (z + b) * 2 ^ (K + K) * 2 ^ 149
exponents q k z b K e = go 298 149 e
  where
    go : (x y : ℕ) → k + x ≡ z + b + (K + K) + y → q * 2 ^ k * 2 ^ x ≡ q * 2 ^ (z + b) * 2 ^ (K + K) * 2 ^ y
    go x y e =
        mul_assoc q (2 ^ k) (2 ^ x)
        ∙ ap (λ (n : ℕ). q * n) (sym (pow-add 2 k x) ∙ ap (λ (n : ℕ). 2 ^ n) e ∙ pow-add 2 (z + b + (K + K)) y ∙ ap (λ (n : ℕ). n * 2 ^ y) (pow-add 2 (z + b) (K + K)))
        ∙ sym (mul_assoc q (2 ^ (z + b) * 2 ^ (K + K)) (2 ^ y))
        ∙ ap (λ (n : ℕ). n * 2 ^ y) (sym (mul_assoc q (2 ^ (z + b)) (2 ^ (K + K))))
