-- The longest string: at 20 Hz its period is rate / 20, rounded half up, and no pitch has a longer one. rate / 20 is a whole number of twentieths, so with k = (rate + 10) / 20
-- it is from k - 1 / 2 to k + 9 / 20, which is below k + 15 / 32; both bounds are f32, so the quotient in f32 lies between them too. Assumes nothing.
use mathlib.Core.Path.{◌≡◌, refl, sym, ap, ◌∙◌, subst}
use mathlib.Core.Logic.{inl, inr}
use Prim.Native.Nat.{ℕ, suc, ◌+◌, ◌-◌, ◌*◌, ◌/◌, ◌^◌, ◌≤◌, ◌<◌, max, min, zero-le}
use native.Mathlib.Nat.{lt_of_lt_of_le, zero-lt-suc, mul-pos, mul-le-mul_right, mul-le-mul_left, le_antisymm, le_trans, le-div_iff_mul-le, div-lt_iff_lt-mul}
use native.Mathlib.Omega.{arith}
use mathlib.Core.Bool.{Bool, true, false, cond, true≢false}
use borrow.Author.Tests.{le-ltb}
use lib.Dec.{lit≤}
use lib.IntN.{pos, negsuc}
use lib.Pow.{pow_pos}
use lib.Ieee.{Float, nan, inf, fin, binary32, up, down, to_unsigned, lt, round}
use lib.Ieee.Fits.{down_pos}
use lib.Ieee.Exact.{HasValue}
use lib.Ieee.Nearest.{div_mono}
use Rattle.ieee.specs.Numbers.{c2, c20, f32}
use Rattle.ieee.specs.Binary32.{◌⊘◌}
use Rattle.ieee.specs.Order.{clamp_of}
use Rattle.ieee.specs.Whole.{whole, half_up, exactly, round_of}
use Rattle.ieee.proofs.Value.{lt_value}
use Rattle.ieee.proofs.Exactly.{round_value, exactly_value}
use Rattle.ieee.proofs.Bounds.{AtMost, AtLeast, value_at_most}
use Rattle.ieee.proofs.Cut.{cut_at_most}
use Rattle.ieee.proofs.Range.{Between, div_at_most, div_at_least}
use Rattle.dsl.specs.Domain.{Rate}
use Rattle.dsl.proofs.Exact.{rate_value}
use Rattle.counts.specs.Period.{period_of}
use Rattle.counts.proofs.Periods.{c20_value, half_value, clamped, pitch, div_nan, cut_nan}

-- ---- rounding half away from zero between k - 1 / 2 and k + 15 / 32
half_is : (m C k : ℕ) → 0 < C → k * 2 * C ≤ m * 2 + C → m * 32 ≤ (k * 32 + 15) * C → half_up m C ≡ k
half_is m C k P h g =
    le_antisymm (below (half_up m C) k ((div-lt_iff_lt-mul (mul-pos P (zero-lt-suc 1))).1 (under m C k P g)))
    ((le-div_iff_mul-le (mul-pos P (zero-lt-suc 1))).1 (over m C k h))
  where
    below : (a k : ℕ) → a < suc k → a ≤ k
    below a k h = omega arith

    under : (m C k : ℕ) → 0 < C → m * 32 ≤ (k * 32 + 15) * C → m * 2 + C < suc k * (C * 2)
    under m C k P g = omega arith

    over : (m C k : ℕ) → k * 2 * C ≤ m * 2 + C → k * (C * 2) ≤ m * 2 + C
    over m C k h = omega arith

pub cut_value : (x : Float) (q : ℕ) → q < 2 ^ 64 → HasValue x false q 1 → to_unsigned 64 x ≡ q
unfolding to_unsigned
cut_value nan q l v = absurd v
cut_value (inf s) q l v = absurd v
cut_value (fin true m e) q l v = absurd (true≢false v.0)
cut_value (fin false m e) q l v =
    capped (m * up e / down e) q l (le_antisymm (div_le (m * up e) (down e) q (down_pos e) v.1) ((le-div_iff_mul-le (down_pos e)).1 (same (m * up e) (q * down e) v.1)))
  where
    same : (a b : ℕ) → a * 1 ≡ b → b ≤ a
    same a b h = omega arith

    div_le : (a d q : ℕ) → 0 < d → a * 1 ≡ q * d → a / d ≤ q
    div_le a d q D h = le_trans (div_mono a d q 1 D (zero-lt-suc 0) (subst (λ (x : ℕ). x ≤ q * d) (sym h) (omega arith))) (omega arith)

    capped : (a q : ℕ) → q < 18446744073709551616 → a ≡ q → min a (2 ^ 64 - 1) ≡ q
    capped a q l e = omega arith

-- the bounds k - 1 / 2, as (2 j + 1) / 2 with k = j + 1, and k + 15 / 32
pub cut_round : (x : Float) (j : ℕ) → suc j < 2 ^ 64 → AtLeast x (j * 2 + 1) 2 → AtMost x (suc j * 32 + 15) 32 → to_unsigned 64 (round_of x) ≡ suc j
unfolding whole
cut_round nan j f l m = absurd l
cut_round (inf true) j f l m = absurd l
cut_round (inf false) j f l m = absurd m
cut_round (fin true n e) j f l m = absurd l
cut_round (fin false n (pos i)) j f l m = cut_value (fin false n (pos i)) (suc j) f (refl, only (n * 2 ^ i) j l m)
  where
    only : (a j : ℕ) → (j * 2 + 1) * 1 ≤ a * 2 → a * 32 ≤ (suc j * 32 + 15) * 1 → a * 1 ≡ suc j * 1
    only a j h g = omega arith
cut_round (fin false n (negsuc i)) j f l m =
    let C = 2 ^ suc i in
    let q : half_up n C ≡ suc j = half_is n C (suc j) (pow_pos (suc i)) (least n C j l) (most n C j m) in
    cut_value (exactly false (half_up n C) 0) (suc j) f (subst (λ (k : ℕ). HasValue (exactly false (half_up n C) 0) false k 1) q (exactly_value false (half_up n C) 0))
  where
    least : (n C j : ℕ) → (j * 2 + 1) * C ≤ n * 1 * 2 → suc j * 2 * C ≤ n * 2 + C
    least n C j h = omega arith

    most : (n C j : ℕ) → n * 1 * 32 ≤ (suc j * 32 + 15) * C → n * 32 ≤ (suc j * 32 + 15) * C
    most n C j h = omega arith

rounded_most : (x : Float) (k : ℕ) → AtMost x (k * 32 + 15) 32 → AtMost (round_of x) k 1
unfolding whole
rounded_most nan k u = u
rounded_most (inf true) k u = u
rounded_most (inf false) k u = u
rounded_most (fin true m (pos i)) k u = tt
rounded_most (fin true m (negsuc i)) k u = negative (exactly true (half_up m (2 ^ suc i)) 0) (half_up m (2 ^ suc i)) (exactly_value true (half_up m (2 ^ suc i)) 0)
  where
    negative : (x : Float) (q : ℕ) → HasValue x true q 1 → AtMost x k 1
    negative nan q v = v
    negative (inf s) q v = absurd v
    negative (fin true m e) q v = tt
    negative (fin false m e) q v = absurd (true≢false (sym v.0))
rounded_most (fin false m (pos i)) k u = whole_most (m * 2 ^ i) k u
  where
    whole_most : (a k : ℕ) → a * 32 ≤ (k * 32 + 15) * 1 → a * 1 ≤ k * 1
    whole_most a k h = omega arith
rounded_most (fin false m (negsuc i)) k u =
    let C = 2 ^ suc i in
    value_at_most (exactly false (half_up m C) 0) (half_up m C) 1 k 1 (zero-lt-suc 0) (exactly_value false (half_up m C) 0)
    (less (half_up m C) k ((div-lt_iff_lt-mul (mul-pos (pow_pos (suc i)) (zero-lt-suc 1))).1 (under m C k (pow_pos (suc i)) u)))
  where
    under : (m C k : ℕ) → 0 < C → m * 1 * 32 ≤ (k * 32 + 15) * C → m * 2 + C < suc k * (C * 2)
    under m C k P g = omega arith

    less : (a k : ℕ) → a < suc k → a * 1 ≤ k * 1
    less a k h = omega arith

-- ---- the quotient
module _ (rate : ℕ) (r : Rate rate) where
  abbrev k : ℕ
  k = (rate + 10) / 20

  abbrev j : ℕ
  j = k - 1

  at_20 : clamp_of c20 c20 (f32 rate ⊘ c2) ≡ c20
  at_20 =
      ap (λ (t : Bool). cond t c20 (cond (lt (f32 rate ⊘ c2) c20) (f32 rate ⊘ c2) c20)) (lt_value c20 c20 20 1 20 1 (zero-lt-suc 0) (zero-lt-suc 0) c20_value c20_value)
      ∙ ap (λ (t : Bool). cond t (f32 rate ⊘ c2) c20)
      (lt_value (f32 rate ⊘ c2) c20 (rate * 1) (2 * 1) 20 1 (zero-lt-suc 1) (zero-lt-suc 0) (half_value rate r) c20_value ∙ le-ltb (rate * 1 * 1) (20 * (2 * 1)) (over rate r.least))
    where
      over : (rate : ℕ) → 8000 ≤ rate → 40 ≤ rate * 1 * 1
      over rate h = omega arith

  -- both bounds are f32
  digits : (a : ℕ) → a ≤ 400000 → a < 2 ^ 24
  digits a h = lt_of_lt_of_le (omega arith) (lit≤ {m = 400001} tt)

  low_is : HasValue (round binary32 false (j * 2 + 1) 2) false (j * 2 + 1) 2
  low_is = round_value binary32 false (j * 2 + 1) 1 (digits _ (bound rate r.most)) (lit≤ tt) (j * 2 + 1) 2 (zero-lt-suc 1) refl
    where
      bound : (rate : ℕ) → rate ≤ 192000 → ((rate + 10) / 20 - 1) * 2 + 1 ≤ 400000
      bound rate h = omega arith

  high_is : HasValue (round binary32 false (suc j * 32 + 15) 32) false (suc j * 32 + 15) 32
  high_is = round_value binary32 false (suc j * 32 + 15) 5 (digits _ (bound rate r.most)) (lit≤ tt) (suc j * 32 + 15) 32 (zero-lt-suc 31) refl
    where
      bound : (rate : ℕ) → rate ≤ 192000 → suc ((rate + 10) / 20 - 1) * 32 + 15 ≤ 400000
      bound rate h = omega arith

  pub period_at_20 : period_of rate c20 ≡ (rate + 10) / 20
  unfolding period_of
  period_at_20 =
      ap (λ (y : Float). max (to_unsigned 64 (round_of (f32 rate ⊘ y))) 2) at_20
      ∙ end rate r.least _ (cut_round (f32 rate ⊘ c20) j (fits rate r.most)
      (div_at_least binary32 (f32 rate) c20 rate 1 20 1 (zero-lt-suc 0) (zero-lt-suc 19) (zero-lt-suc 0) (rate_value rate r) c20_value
      (j * 2 + 1) 2 (j * 2 + 1) 2 (zero-lt-suc 1) low_is (odd_pos j) (least rate r.least))
      (div_at_most binary32 (f32 rate) c20 rate 1 20 1 (zero-lt-suc 0) (zero-lt-suc 19) (zero-lt-suc 0) (rate_value rate r) c20_value
      (suc j * 32 + 15) 32 (suc j * 32 + 15) 32 (zero-lt-suc 31) high_is (most rate)))
    where
      odd_pos : (j : ℕ) → 0 < j * 2 + 1
      odd_pos j = omega arith

      fits : (rate : ℕ) → rate ≤ 192000 → suc ((rate + 10) / 20 - 1) < 18446744073709551616
      fits rate h = omega arith

      least : (rate : ℕ) → 8000 ≤ rate → (((rate + 10) / 20 - 1) * 2 + 1) * (20 * 1) ≤ rate * 1 * 2
      least rate h = omega arith

      most : (rate : ℕ) → rate * 1 * 32 ≤ (suc ((rate + 10) / 20 - 1) * 32 + 15) * (20 * 1)
      most rate = omega arith

      end : (rate : ℕ) → 8000 ≤ rate → (c : ℕ) → c ≡ suc ((rate + 10) / 20 - 1) → max c 2 ≡ (rate + 10) / 20
      end rate h c e = omega arith

  -- ---- any other pitch: clamped it is at least 20, so its quotient is at most rate / 20
  pub period_most : (x : Float) → period_of rate x ≤ (rate + 10) / 20
  unfolding period_of
  period_most x = elim (clamped rate r x) [
    | inl e ↦ end rate r.least _ (subst (λ (n : ℕ). n ≤ suc j) (sym (ap (λ (y : Float). to_unsigned 64 (round_of (f32 rate ⊘ y))) e ∙ none)) zero-le)
    | inr v ↦ end rate r.least _ (cut_at_most 64 (round_of (f32 rate ⊘ pitch rate r x)) (suc j) (rounded_most (f32 rate ⊘ pitch rate r x) (suc j) (quotient v)))
  ]
    where
      none : to_unsigned 64 (round_of (f32 rate ⊘ nan)) ≡ 0
      none = ap (λ (q : Float). to_unsigned 64 (round_of q)) (div_nan binary32 (f32 rate)) ∙ cut_nan

      quotient : Between 20 1 (rate * 1) (2 * 1) (pitch rate r x) → AtMost (f32 rate ⊘ pitch rate r x) (suc j * 32 + 15) 32
      quotient v =
          div_at_most binary32 (f32 rate) (pitch rate r x) rate 1 v.num v.den (zero-lt-suc 0) (positive v.num v.den v.den_pos v.least) v.den_pos (rate_value rate r) v.value
          (suc j * 32 + 15) 32 (suc j * 32 + 15) 32 (zero-lt-suc 31) high_is (at_most (suc j * 32 + 15) rate v.num v.den (most rate) v.least)
        where
          positive : (n e : ℕ) → 0 < e → 20 * e ≤ n * 1 → 0 < n
          positive n e h l = omega arith

          most : (rate : ℕ) → rate * 32 ≤ (suc ((rate + 10) / 20 - 1) * 32 + 15) * 20
          most rate = omega arith

          at_most : (b rate n e : ℕ) → rate * 32 ≤ b * 20 → 20 * e ≤ n * 1 → rate * e * 32 ≤ b * (n * 1)
          at_most b rate n e m l = omega (arith, mul-le-mul_right e m, mul-le-mul_left b l)

      end : (rate : ℕ) → 8000 ≤ rate → (c : ℕ) → c ≤ suc ((rate + 10) / 20 - 1) → max c 2 ≤ (rate + 10) / 20
      end rate h c e = omega arith
