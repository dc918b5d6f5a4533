-- A string's period at a rate of the domain is at least 2 and at most 9,600, whatever the pitch is, also a NaN.
-- A clamped pitch is at least 20, so the quotient is at most 192,000 / 20 before it is rounded, and 9,600 is an f32. Assumes nothing.
use Rattle.std.proofs.Common.{◌≡◌, ℕ, ◌*◌, ◌<◌, ◌≤◌, max, false, ◌⊎◌, sym, refl, ap, ◌∙◌, subst, inl, inr, lt_of_lt_of_le, mul-le-mul_right, zero-lt-suc, arith, lit≤}
use lib.Ieee.{Float, nan, inf, fin, Format, binary32, div, of_bits, to_unsigned}
use lib.Ieee.Exact.{HasValue}
use lib.Ieee.Back.{round_whole}
use Rattle.ieee.specs.Numbers.{c2, c20, f32}
use Rattle.ieee.specs.Binary32.{◌⊘◌}
use Rattle.ieee.specs.Order.{clamp_of}
use Rattle.ieee.specs.Whole.{whole, round_of}
use Rattle.ieee.proofs.Value.{div_value}
use Rattle.ieee.proofs.Exactly.{round_value}
use Rattle.ieee.proofs.Bounds.{AtMost}
use Rattle.ieee.proofs.Cut.{rounded_at_most, cut_at_most}
use Rattle.ieee.proofs.Range.{Between, clamp_between, div_at_most}
use Rattle.dsl.specs.Domain.{Rate}
use Rattle.counts.specs.Period.{period_of}
use Rattle.dsl.proofs.Exact.{rate_value}

pub c20_value : HasValue c20 false 20 1
unfolding of_bits
c20_value = (refl, refl)

c2_value : HasValue c2 false 2 1
unfolding of_bits
c2_value = (refl, refl)

pub div_nan : (f : Format) (x : Float) → div f x nan ≡ nan
unfolding div
div_nan f nan = refl
div_nan f (inf s) = refl
div_nan f (fin s m e) = refl

pub cut_nan : to_unsigned 64 (round_of nan) ≡ 0
unfolding whole to_unsigned
cut_nan = refl

pub period_least : (rate : ℕ) (x : Float) → 2 ≤ period_of rate x
unfolding period_of
period_least rate x = omega arith

module _ (rate : ℕ) (r : Rate rate) where
  -- ---- rate / 2
  pub half_value : HasValue (f32 rate ⊘ c2) false (rate * 1) (2 * 1)
  half_value =
      subst (λ (x : Float). HasValue x false (rate * 1) (2 * 1))
      (sym (div_value binary32 (f32 rate) c2 false false rate 1 2 1 (zero-lt-suc 0) (zero-lt-suc 1) (zero-lt-suc 0) (rate_value rate r) c2_value))
      (round_value binary32 false rate 1 (lt_of_lt_of_le (small rate r.most) (lit≤ tt)) (lit≤ tt) (rate * 1) (2 * 1) (zero-lt-suc 1) (same rate))
    where
      small : (rate : ℕ) → rate ≤ 192000 → rate < 192001
      small rate h = omega arith

      same : (rate : ℕ) → rate * 1 * 2 ≡ rate * 2
      same rate = omega arith

  -- ---- the period
  module _ (x : Float) where
    abbrev pub pitch : Float
    pitch = clamp_of x c20 (f32 rate ⊘ c2)

    pub clamped : (pitch ≡ nan) ⊎ Between 20 1 (rate * 1) (2 * 1) pitch
    clamped = clamp_between c20 (f32 rate ⊘ c2) 20 1 (rate * 1) (2 * 1) (zero-lt-suc 19) (zero-lt-suc 0) (zero-lt-suc 1) c20_value half_value (ordered rate r.least) x
      where
        ordered : (rate : ℕ) → 8000 ≤ rate → 20 * (2 * 1) ≤ rate * 1 * 1
        ordered rate h = omega arith

    quotient : Between 20 1 (rate * 1) (2 * 1) pitch → AtMost (f32 rate ⊘ pitch) 9600 1
    quotient v =
        div_at_most binary32 (f32 rate) pitch rate 1 v.num v.den (zero-lt-suc 0) (positive v.num v.den v.den_pos v.least) v.den_pos (rate_value rate r) v.value
        9600 1 9600 1 (zero-lt-suc 0) (round_whole binary32 false 9600 (lit≤ tt)) (at_most rate v.num v.den r.most v.least)
      where
        positive : (n e : ℕ) → 0 < e → 20 * e ≤ n * 1 → 0 < n
        positive n e h l = omega arith

        at_most : (rate n e : ℕ) → rate ≤ 192000 → 20 * e ≤ n * 1 → rate * e * 1 ≤ 9600 * (n * 1)
        at_most rate n e m l = omega (arith, mul-le-mul_right e m)

    none : to_unsigned 64 (round_of (f32 rate ⊘ nan)) ≡ 0
    none = ap (λ (q : Float). to_unsigned 64 (round_of q)) (div_nan binary32 (f32 rate)) ∙ cut_nan

    cut_le : to_unsigned 64 (round_of (f32 rate ⊘ pitch)) ≤ 9600
    cut_le = elim clamped [
      | inl e ↦ subst (λ (k : ℕ). k ≤ 9600) (sym (ap (λ (y : Float). to_unsigned 64 (round_of (f32 rate ⊘ y))) e ∙ none)) (lit≤ tt)
      | inr v ↦ cut_at_most 64 (round_of (f32 rate ⊘ pitch)) 9600 (rounded_at_most (f32 rate ⊘ pitch) 9600 (quotient v))
    ]

    -- a string fits the 9,600 values that refusal 21 asks for
    pub period_fits : period_of rate x ≤ 9600
    unfolding period_of
    period_fits = under (to_unsigned 64 (round_of (f32 rate ⊘ pitch))) cut_le
      where
        under : (k : ℕ) → k ≤ 9600 → max k 2 ≤ 9600
        under k h = omega arith
