-- Rounding to the nearest of the numbers q * 2 ^ k with a q of p digits, a tie to the even q. It is about numbers alone. Assumes nothing.
-- The exact result, which may be a root, is given by a number A and a growing g: A compares with g h as the result does with h halves of the unit.
use mathlib.Core.Path.{◌≡◌, refl, sym, ap, ◌∙◌, subst}
use mathlib.Core.Logic.{◌≢◌, ◌⊎◌, inl, inr}
use Prim.Native.Nat.{ℕ, zero, suc, pred, ◌+◌, ◌-◌, ◌*◌, ◌%◌, ◌^◌, ◌≤◌, ◌<◌, zero-le, compare, Ordering}
use native.Mathlib.Nat.{le_trans, le_of_eq, le_of_lt, le_antisymm, lt_irrefl, lt_of_lt_of_le, lt_of_le_of_lt, lt_of_not-le, not-le_of_lt, eq-or-lt_of_le, le_of_suc-le-suc, mul_assoc}
use native.Mathlib.Nat.{mul-le-mul_left, mul-le-mul_right, mul-lt-mul_of_pos_right, lt_of_mul-lt-mul_right, add-zero, suc_inj, pow-suc, mul-mod_left}
use native.Mathlib.Numerals.{add-one}
use native.Mathlib.Omega.{arith}
use lib.Pow.{pow-add, pow_pos, pow_mono, suc_ones, ones_lt}
use lib.Ieee.{nearest}
use lib.Ieee.Digits.{back}
use Rattle.ieee.proofs.Rounding.{Cmp, cmp}

abbrev pub Grows : (ℕ → ℕ) → Type 0
Grows g = (h i : ℕ) → h < i → g h < g i

-- w is the whole part of the result in steps of 2 ^ k, and of its digits p are left with k dropped
pub record Placed (p k A : ℕ) (g : ℕ → ℕ) (w : ℕ) : Type 0 where
  pub low : g (w * 2 ^ k * 2) ≤ A
  pub high : A < g (suc w * 2 ^ k * 2)
  pub most : A < g (2 ^ p * 2 ^ k * 2)
  pub full : 0 < k → g (2 ^ (p - 1) * 2 ^ k * 2) ≤ A

-- q is the rounded result in these steps: the result lies no more than half a step away, and a whole half only from an even q
pub record Rounded (p k A : ℕ) (g : ℕ → ℕ) (q : ℕ) : Type 0 where
  pub most : q ≤ 2 ^ p
  pub least : 0 < k → 2 ^ (p - 1) ≤ q
  pub full : 0 < k → g (2 ^ (p - 1) * 2 ^ k * 2) ≤ A
  pub above : A ≤ g ((q * 2 + 1) * 2 ^ k)
  pub tie_above : A ≡ g ((q * 2 + 1) * 2 ^ k) → q % 2 ≡ 0
  pub below : (n : ℕ) → suc n ≡ q → g ((n * 2 + 1) * 2 ^ k) ≤ A
  pub tie_below : (n : ℕ) → suc n ≡ q → A ≡ g ((n * 2 + 1) * 2 ^ k) → q % 2 ≡ 0

grows : {g : ℕ → ℕ} → Grows g → {h i : ℕ} → h ≤ i → g h ≤ g i
grows {g} G l = elim (eq-or-lt_of_le l) [ inl e ↦ le_of_eq (ap g e) | inr m ↦ le_of_lt (G _ _ m) ]

-- ---- powers of two
pub pow_even : (p : ℕ) → 0 < p → 2 ^ p % 2 ≡ 0
pow_even zero h = absurd (lt_irrefl 0 h)
pow_even (suc p) h = ap (λ (x : ℕ). x % 2) (pow-suc 2 p) ∙ mul-mod_left (2 ^ p) 2

-- p digits in smaller steps stay below p digits in larger ones
smaller_steps : (p j k : ℕ) → 0 < p → j < k → 2 ^ p * 2 ^ j ≤ 2 ^ (p - 1) * 2 ^ k
smaller_steps p j k P l = le_trans (le_of_eq (sym (pow-add 2 p j))) (le_trans (pow_mono (places p j k P l)) (le_of_eq (pow-add 2 (p - 1) k)))
  where
    places : (p j k : ℕ) → 0 < p → j < k → p + j ≤ p - 1 + k
    places p j k P l = omega arith

-- ---- from the whole part to the rounded result
module _ {p k A w : ℕ} {g : ℕ → ℕ} (G : Grows g) (at : Placed p k A g w) where
  between : (x y : ℕ) → g (x * 2 ^ k * 2) ≤ A → A < g (y * 2 ^ k * 2) → x < y
  between x y a b = lt_of_not-le (λ (l : y ≤ x). not-le_of_lt b (le_trans (grows G (mul-le-mul_right 2 (mul-le-mul_right (2 ^ k) l))) a))

  w_most : w < 2 ^ p
  w_most = between w (2 ^ p) at.low at.most

  w_least : 0 < k → 2 ^ (p - 1) < suc w
  w_least i = between (2 ^ (p - 1)) (suc w) (at.full i) at.high

  stays : A ≤ g ((w * 2 + 1) * 2 ^ k) → (A ≡ g ((w * 2 + 1) * 2 ^ k) → w % 2 ≡ 0) → Rounded p k A g w
  stays l t = record {
    most = le_of_lt w_most;
    least = λ i. le_of_suc-le-suc (w_least i);
    full = at.full;
    above = l;
    tie_above = t;
    below = λ n e. le_of_lt (under n e);
    tie_below = λ n e z. absurd (lt_irrefl A (lt_of_le_of_lt (le_of_eq z) (under n e)));
  }
    where
      less : (n K : ℕ) → 0 < K → (n * 2 + 1) * K < suc n * K * 2
      less n K h = omega arith

      under : (n : ℕ) → suc n ≡ w → g ((n * 2 + 1) * 2 ^ k) < A
      under n e = lt_of_lt_of_le (G _ _ (less n (2 ^ k) (pow_pos k))) (subst (λ (x : ℕ). g (x * 2 ^ k * 2) ≤ A) (sym e) at.low)

  steps : g ((w * 2 + 1) * 2 ^ k) ≤ A → (A ≡ g ((w * 2 + 1) * 2 ^ k) → suc w % 2 ≡ 0) → Rounded p k A g (suc w)
  steps l t = record {
    most = w_most;
    least = λ i. le_of_lt (w_least i);
    full = at.full;
    above = le_of_lt over;
    tie_above = λ z. absurd (lt_irrefl A (lt_of_lt_of_le over (le_of_eq (sym z))));
    below = λ n e. subst (λ (x : ℕ). g ((x * 2 + 1) * 2 ^ k) ≤ A) (sym (suc_inj e)) l;
    tie_below = λ n e z. t (z ∙ ap (λ (x : ℕ). g ((x * 2 + 1) * 2 ^ k)) (suc_inj e));
  }
    where
      less : (n K : ℕ) → suc n * K * 2 ≤ (suc n * 2 + 1) * K
      less n K = omega arith

      over : A < g ((suc w * 2 + 1) * 2 ^ k)
      over = lt_of_lt_of_le at.high (grows G (less w (2 ^ k)))

  pub rounded : (o : Ordering) → Cmp o A (g ((w * 2 + 1) * 2 ^ k)) → Rounded p k A g (nearest w o)
  rounded Ordering.lt c = stays (le_of_lt c) (λ z. absurd (lt_irrefl A (lt_of_lt_of_le c (le_of_eq (sym z)))))
  rounded Ordering.gt c = steps (le_of_lt c) (λ z. absurd (lt_irrefl A (lt_of_le_of_lt (le_of_eq z) c)))
  rounded Ordering.eq c = go (w % 2) refl
    where
      next : (w r : ℕ) → w % 2 ≡ suc r → suc w % 2 ≡ 0
      next w r e = omega arith

      one : (w r : ℕ) → w % 2 ≡ suc r → suc w ≡ w + suc r
      one w r e = omega arith

      go : (r : ℕ) → w % 2 ≡ r → Rounded p k A g (w + r)
      go zero e = subst (Rounded p k A g) (sym (add-zero w)) (stays (le_of_eq c) (λ z. e))
      go (suc r) e = subst (Rounded p k A g) (one w r e) (steps (le_of_eq (sym c)) (λ z. next w r e))

-- ---- a number of p digits and zeros after them is a whole number of steps of 2 ^ k, or lies below the numbers of p digits in such steps
pub record Short (p b : ℕ) : Type 0 where
  pub n : ℕ
  pub j : ℕ
  pub small : n < 2 ^ p
  pub is : b ≡ n * 2 ^ j

abbrev pub OnGrid : ℕ → ℕ → ℕ → Type 0
OnGrid p k b = ((c : ℕ) × (b ≡ c * 2 ^ k)) ⊎ ((0 < k) × (b < 2 ^ (p - 1) * 2 ^ k))

pub on_grid : (p k b : ℕ) → 0 < p → Short p b → OnGrid p k b
on_grid p k b P h = go (compare h.j k) (cmp h.j k)
  where
    whole : k ≤ h.j → OnGrid p k b
    whole l = inl (
      h.n * 2 ^ (h.j - k),
      h.is
          ∙ ap (λ (x : ℕ). h.n * x) (ap (λ (x : ℕ). 2 ^ x) (sym (back h.j k l)) ∙ pow-add 2 (h.j - k) k)
          ∙ sym (mul_assoc h.n (2 ^ (h.j - k)) (2 ^ k)),
    )

    go : (o : Ordering) → Cmp o h.j k → OnGrid p k b
    go Ordering.lt l = inr (
      lt_of_le_of_lt zero-le l,
      lt_of_le_of_lt (le_of_eq h.is) (lt_of_lt_of_le (mul-lt-mul_of_pos_right h.small (pow_pos h.j)) (smaller_steps p h.j k P l)),
    )
    go Ordering.eq e = whole (le_of_eq (sym e))
    go Ordering.gt l = whole (le_of_lt l)

-- ---- no such number is nearer to the result than q * 2 ^ k is, and one is as near only where q is even
module _ {p k A q : ℕ} {g : ℕ → ℕ} (G : Grows g) (P : 0 < p) (r : Rounded p k A g q) where
  -- b above: the point midway is half a step or more above
  past : (b : ℕ) → Short p b → q * 2 ^ k < b → (q * 2 + 1) * 2 ^ k ≤ q * 2 ^ k + b
  past b h l = elim (on_grid p k b P h) [
    | inl c ↦ step c.0 (2 ^ k) c.1 (lt_of_mul-lt-mul_right (2 ^ k) (lt_of_lt_of_le l (le_of_eq c.1)))
    | inr n ↦ absurd (not-le_of_lt (lt_of_lt_of_le n.1 (mul-le-mul_right (2 ^ k) (r.least n.0))) (le_of_lt l))
  ]
    where
      step : (c K : ℕ) → b ≡ c * K → q < c → (q * 2 + 1) * K ≤ q * K + b
      step c K e i = omega (arith, mul-le-mul_right K i)

  -- b below: the point midway is half a step or more below, or the result is above both
  abbrev Under : ℕ → Type 0
  Under b = ((n : ℕ) × (suc n ≡ q) × (q * 2 ^ k + b ≤ (n * 2 + 1) * 2 ^ k)) ⊎ (g (q * 2 ^ k + b) < A)

  under : (b : ℕ) → Short p b → b < q * 2 ^ k → Under b
  under b h l = elim (on_grid p k b P h) [
    | inl c ↦ inl (step c.0 (2 ^ k) (le_of_eq c.1) (lt_of_mul-lt-mul_right (2 ^ k) (lt_of_le_of_lt (le_of_eq (sym c.1)) l)))
    | inr n ↦ elim (eq-or-lt_of_le (r.least n.0)) [
      | inl e ↦ inr (lt_of_lt_of_le (G _ _ (twice (2 ^ (p - 1)) (2 ^ k) e n.1)) (r.full n.0))
      | inr i ↦ inl (step (2 ^ (p - 1)) (2 ^ k) (le_of_lt n.1) i)
    ]
  ]
    where
      last : (c : ℕ) → c < q → suc (pred q) ≡ q
      last c i = omega arith

      sum : (c n K : ℕ) → b ≤ c * K → c ≤ n → suc n * K + b ≤ (n * 2 + 1) * K
      sum c n K z i = omega (arith, mul-le-mul_right K i)

      step : (c K : ℕ) → b ≤ c * K → c < q → (n : ℕ) × (suc n ≡ q) × (q * K + b ≤ (n * 2 + 1) * K)
      step c K z i =
          let e = last c i in
          (pred q, e, subst (λ (x : ℕ). x * K + b ≤ (pred q * 2 + 1) * K) e (sum c (pred q) K z (le_of_suc-le-suc (subst (λ (x : ℕ). c < x) (sym e) i))))

      twice : (H K : ℕ) → H ≡ q → b < H * K → q * K + b < H * K * 2
      twice H K e z = subst (λ (x : ℕ). x * K + b < H * K * 2) e (omega arith)

  pub none_above : {b : ℕ} → Short p b → q * 2 ^ k < b → A ≤ g (q * 2 ^ k + b)
  none_above {b} h l = le_trans r.above (grows G (past b h l))

  pub none_below : {b : ℕ} → Short p b → b < q * 2 ^ k → g (q * 2 ^ k + b) ≤ A
  none_below {b} h l = elim (under b h l) [ inl n ↦ le_trans (grows G n.2) (r.below n.0 n.1) | inr i ↦ le_of_lt i ]

  pub tie_even : {b : ℕ} → Short p b → b ≢ q * 2 ^ k → A ≡ g (q * 2 ^ k + b) → q % 2 ≡ 0
  tie_even {b} h d z = go (compare b (q * 2 ^ k)) (cmp b (q * 2 ^ k))
    where
      go : (o : Ordering) → Cmp o b (q * 2 ^ k) → q % 2 ≡ 0
      go Ordering.lt l = elim (under b h l) [
        | inl n ↦ r.tie_below n.0 n.1 (le_antisymm (le_trans (le_of_eq z) (grows G n.2)) (r.below n.0 n.1))
        | inr i ↦ absurd (lt_irrefl A (lt_of_le_of_lt (le_of_eq z) i))
      ]
      go Ordering.eq e = absurd (d e)
      go Ordering.gt l = r.tie_above (le_antisymm r.above (le_trans (grows G (past b h l)) (le_of_eq (sym z))))

  -- ---- the largest number of p digits and e zeros, and half a step of 2 ^ e: from there on the rounded result is 2 ^ p * 2 ^ e or more, and before it is less
  module _ (e : ℕ) where
    top_is : (2 ^ (p + 1) - 1) * 2 ^ e ≡ ((2 ^ p - 1) * 2 + 1) * 2 ^ e
    top_is = ap (λ (x : ℕ). x * 2 ^ e) (ones (2 ^ p) (2 ^ p - 1) (2 ^ (p + 1)) (suc_ones p) (ap (λ (x : ℕ). 2 ^ x) (add-one p) ∙ pow-suc 2 p))
      where
        ones : (x y z : ℕ) → suc y ≡ x → z ≡ x * 2 → z - 1 ≡ y * 2 + 1
        ones x y z a b = omega arith

    pub within : A < g ((2 ^ (p + 1) - 1) * 2 ^ e) → q * 2 ^ k < 2 ^ p * 2 ^ e
    within h = lt_of_not-le (λ (l : 2 ^ p * 2 ^ e ≤ q * 2 ^ k). not-le_of_lt h (le_trans (grows G (far l)) (none_below largest (lt_of_lt_of_le (mul-lt-mul_of_pos_right (ones_lt p) (pow_pos e)) l))))
      where
        largest : Short p ((2 ^ p - 1) * 2 ^ e)
        largest = record { n = 2 ^ p - 1; j = e; small = ones_lt p; is = refl }

        sum : (x y z u : ℕ) → suc y ≡ x → x * z ≤ u → (y * 2 + 1) * z ≤ u + y * z
        sum x y z u a l = omega (arith, subst (λ (x : ℕ). x * z ≤ u) (sym a) l)

        far : 2 ^ p * 2 ^ e ≤ q * 2 ^ k → (2 ^ (p + 1) - 1) * 2 ^ e ≤ q * 2 ^ k + (2 ^ p - 1) * 2 ^ e
        far l = le_trans (le_of_eq top_is) (sum (2 ^ p) (2 ^ p - 1) (2 ^ e) (q * 2 ^ k) (suc_ones p) l)

    -- with less, half a step more than q * 2 ^ k stays below that point, or it is that point and q is odd
    pub beyond : g ((2 ^ (p + 1) - 1) * 2 ^ e) ≤ A → 2 ^ p * 2 ^ e ≤ q * 2 ^ k
    beyond h = le_of_suc-le-suc (lt_of_not-le (λ (l : q * 2 ^ k < 2 ^ p * 2 ^ e). go l (compare k e) (cmp k e)))
      where
        not_under : (q * 2 + 1) * 2 ^ k < ((2 ^ p - 1) * 2 + 1) * 2 ^ e → ⊥
        not_under l = not-le_of_lt (lt_of_le_of_lt r.above (G _ _ (lt_of_lt_of_le l (le_of_eq (sym top_is))))) h

        not_odd : k ≡ e → q ≡ 2 ^ p - 1 → q % 2 ≡ 0
        not_odd z c = r.tie_above (le_antisymm r.above (subst (λ (x : ℕ). g x ≤ A) (top_is ∙ (λ i. (sym c i * 2 + 1) * 2 ^ sym z i)) h))

        fine : (x y K Z : ℕ) → suc y ≡ x → 2 ≤ x → q ≤ x → 0 < K → K * 2 ≤ Z → (q * 2 + 1) * K < (y * 2 + 1) * Z
        fine x y K Z a t m i l = omega (arith, mul-le-mul_right K (le_trans m (le_of_eq (sym a))), mul-le-mul_right K (some x y a t), mul-le-mul_left (y * 2 + 1) l)
          where
            some : (x y : ℕ) → suc y ≡ x → 2 ≤ x → 1 ≤ y
            some x y a t = omega arith

        same : (q y K Z : ℕ) → K ≡ Z → q < y → 0 < K → (q * 2 + 1) * K < (y * 2 + 1) * Z
        same q y K Z a l i = subst (λ (z : ℕ). (q * 2 + 1) * K < (y * 2 + 1) * z) a (omega (arith, mul-le-mul_right K l))

        less : (x y : ℕ) → suc y ≡ x → q < x → q ≤ y
        less x y a l = omega arith

        odd : (x y : ℕ) → suc y ≡ x → x % 2 ≡ 0 → q ≡ y → q % 2 ≡ 0 → ⊥
        odd x y a b c d = omega arith

        go : q * 2 ^ k < 2 ^ p * 2 ^ e → (o : Ordering) → Cmp o k e → ⊥
        go l Ordering.lt i = not_under (fine (2 ^ p) (2 ^ p - 1) (2 ^ k) (2 ^ e) (suc_ones p) (pow_mono {i = 1} P) r.most (pow_pos k) (le_trans (le_of_eq (sym (pow-suc 2 k))) (pow_mono i)))
        go l Ordering.eq z =
            elim (eq-or-lt_of_le (less (2 ^ p) (2 ^ p - 1) (suc_ones p) (lt_of_mul-lt-mul_right (2 ^ e) (subst (λ (x : ℕ). q * 2 ^ x < 2 ^ p * 2 ^ e) z l)))) [
              | inl c ↦ odd (2 ^ p) (2 ^ p - 1) (suc_ones p) (pow_even p P) c (not_odd z c)
              | inr m ↦ not_under (same q (2 ^ p - 1) (2 ^ k) (2 ^ e) (ap (λ (x : ℕ). 2 ^ x) z) m (pow_pos k))
            ]
        go l Ordering.gt i = not-le_of_lt l (le_trans (smaller_steps p e k P i) (mul-le-mul_right (2 ^ k) (r.least (lt_of_le_of_lt zero-le i))))
