-- A positive f32 with all its 24 digits, neither the first nor the last of its binade: its value, its midpoints, and what lies between these rounds to it. Assumes nothing.
use Prim.Native.Nat.{ℕ, suc, ◌+◌, ◌-◌, ◌*◌, ◌/◌, ◌%◌, ◌^◌, ◌≤◌, ◌<◌}
use mathlib.Core.Path.{◌≡◌, refl, sym, subst}
use mathlib.Core.Bool.{false}
use native.Mathlib.Nat.{le_of_lt, le_of_eq, lt_irrefl, lt_of_lt_of_le, lt_of_le_of_lt, pow-le-pow_left, pow-lt-pow_left, mod-eq_of_lt}
use native.Mathlib.Omega.{arith}
use borrow.Author.Tests.{lt-leb}
use lib.Pow.{pow_pos, pow_mono, shl_lt}
use lib.Ieee.{binary32, of_bits, units}
use lib.Ieee.Exact.{HasValue}
use lib.Ieee.Bits.{of_bits-fits}
use Rattle.ieee.specs.Nearest.{RoundsTo}
use Rattle.ieee.proofs.Fields.{fields_mid}
use Rattle.ieee.proofs.Halves.{Grows, Rounded}
use Rattle.ieee.proofs.Nearest.{rounds}
use Rattle.ieee.proofs.Units.{units_value}
use Rattle.ieee.proofs.Value.{value_unique}
use Rattle.quarter_tone.specs.Rule.{units_of, midpoint, meant, NearestTone, exact_tone}

pub record Amid (b : ℕ) : Type 0 where
  pub digits : (0 < b % 2 ^ 23) × (b % 2 ^ 23 < 2 ^ 23 - 1)
  pub field : (0 < b / 2 ^ 23) × (b / 2 ^ 23 < 255)

pub powers_grow : Grows (λ h. h ^ 24)
powers_grow h i l = pow-lt-pow_left l (λ e. omega arith)

-- two neighbours' digits in steps of K, and their sum
neighbours : (x y K : ℕ) → y ≡ suc x → x * K + y * K ≡ (x * 2 + 1) * K
neighbours x y K e = subst (λ (y : ℕ). x * K + y * K ≡ (x * 2 + 1) * K) (sym e) (omega arith)

-- the first number of a binade lies below every midpoint in it
past_first : (n K : ℕ) → 2 ^ 23 * K * 2 ≤ ((n + 2 ^ 23) * 2 + 1) * K
past_first n K = omega arith

module _ (b : ℕ) (I : Amid b) where
  -- its 24 digits, and how many zeros stand after them
  abbrev digits : ℕ
  digits = b % 2 ^ 23 + 2 ^ 23

  abbrev zeros : ℕ
  zeros = b / 2 ^ 23 - 1

  pub amid_value : HasValue (of_bits binary32 b) false (units_of b) (2 ^ 149)
  unfolding of_bits
  amid_value =
      let small : b < 2 ^ 31 = omega (arith, I.field.1) in
      let v = fields_mid binary32 false (b / 2 ^ 23) (b % 2 ^ 23) (λ e. omega (arith, I.field.0)) (λ e. omega (arith, I.field.1)) in
      rw (lt-leb (2 ^ 31) b small, mod-eq_of_lt small) v

  midpoint_above : midpoint b ≡ (digits * 2 + 1) * 2 ^ zeros
  midpoint_above =
      let d : (b + 1) % 2 ^ 23 + 2 ^ 23 ≡ suc digits = omega (arith, I.digits.1) in
      let z : (b + 1) / 2 ^ 23 ≡ b / 2 ^ 23 = omega (arith, I.digits.1) in
      rw (d, z) (neighbours digits (suc digits) (2 ^ zeros) refl)

  midpoint_below : (n : ℕ) → suc n ≡ digits → midpoint (b - 1) ≡ (n * 2 + 1) * 2 ^ zeros
  midpoint_below n e =
      let d : (b - 1) % 2 ^ 23 + 2 ^ 23 ≡ n = omega (arith, I.digits.0) in
      let z : (b - 1) / 2 ^ 23 ≡ b / 2 ^ 23 = omega (arith, I.digits.0) in
      let s : b - 1 + 1 ≡ b = omega (arith, I.digits.0) in
      rw (s, d, z) (neighbours n digits (2 ^ zeros) (sym e))

  module _ (q : ℕ) (N : NearestTone q b) where
    below_meant : (n : ℕ) → suc n ≡ digits → ((n * 2 + 1) * 2 ^ zeros) ^ 24 < meant q
    below_meant n e = subst (λ (h : ℕ). h ^ 24 < meant q) (midpoint_below n e) N.above

    above_meant : meant q < ((digits * 2 + 1) * 2 ^ zeros) ^ 24
    above_meant = subst (λ (h : ℕ). meant q < h ^ 24) midpoint_above N.below

    is_rounded : Rounded 24 zeros (meant q) (λ h. h ^ 24) digits
    is_rounded = record {
      most = omega arith;
      least = λ i. omega arith;
      full = λ i. le_of_lt (lt_of_le_of_lt (pow-le-pow_left (past_first (b % 2 ^ 23 - 1) (2 ^ zeros)) 24) (below_meant (b % 2 ^ 23 - 1 + 2 ^ 23) (omega (arith, I.digits.0))));
      above = le_of_lt above_meant;
      tie_above = λ e. absurd (lt_irrefl (meant q) (lt_of_lt_of_le above_meant (le_of_eq (sym e))));
      below = λ n e. le_of_lt (below_meant n e);
      tie_below = λ n e z. absurd (lt_irrefl (meant q) (lt_of_le_of_lt (le_of_eq z) (below_meant n e)));
    }

    -- rounded by IEEE 754's rule, it is this f32 and no other
    pub amid_rounds : RoundsTo binary32 (exact_tone q) false (of_bits binary32 b)
    amid_rounds = subst (RoundsTo binary32 (exact_tone q) false) as_units (rounds binary32 false powers_grow is_rounded)
      where
        within : digits * 2 ^ zeros < 2 ^ 277
        within = lt_of_lt_of_le (shl_lt 24 zeros (omega arith)) (pow_mono {j = 277} (omega (arith, I.field.1)))

        as_units : units binary32 false digits zeros ≡ of_bits binary32 b
        as_units =
            let u = units_value binary32 false digits zeros (omega arith) within in
            value_unique binary32 binary32 _ _ false (units_of b) (2 ^ 149) (pow_pos 149) u.held (of_bits-fits binary32 b) u.is amid_value
