-- A number's sum with 2^52 has the nearest whole number in its last digits. Assumes nothing.
use mathlib.Core.Path.{◌≡◌, refl, sym, ap, ◌∙◌, subst}
use mathlib.Core.Bool.{Bool, false, not}
use Prim.Native.Nat.{ℕ, ◌+◌, ◌-◌, ◌*◌, ◌/◌, ◌%◌, ◌^◌, ◌≤◌, ◌<◌}
use native.Mathlib.Nat.{le_trans, le_of_eq, zero-lt-suc, mul-one, mul-div_cancel, mul-le-mul_right}
use native.Mathlib.Omega.{arith}
use borrow.Author.Tests.{ltb-true}
use lib.Dec.{T, lit<}
use lib.Pow.{pow-add, pow_pos, shl_lt}
use lib.IntN.{pos}
use lib.Ieee.{Float, nan, inf, fin, binary64, size, of_bits, to_bits, is_nan, fits}
use lib.Ieee.Exact.{HasValue}
use lib.Ieee.Nearest.{closest}
use Rattle.ieee.specs.Binary64.{◌⊞◌, ◌⊟◌}
use Rattle.ieee.specs.Numbers64.{d2^52}
use Rattle.ieee.specs.Whole.{whole, half_up}
use Rattle.ieee.proofs.Value.{revalue, lt_value}
use Rattle.ieee.proofs.Bounds.{lt_at_most, at_most_lt}
use Rattle.ieee.proofs.Digits.{size_at}
use Rattle.ieee.proofs.Units.{to_bits_value}
use Rattle.ieee.proofs.Quotients.{closest_one, closest_below}
use Rattle.float.specs.Small.{Small}
use Rattle.float.proofs.Wholes.{Parts, parts, A, C, C_pos, x_value, sum_value, nearest_is, half_taken, whole_value}
use Rattle.det.specs.Low.{d1000, Summed}

-- ---- the pattern of q * 2 ^ k of the smallest values, q having all 53 digits
pattern : (q k : ℕ) → 2 ^ 52 ≤ q → q < 2 ^ 53 → 0 + (size (q * 2 ^ k) - 53) * 2 ^ 52 + q * 2 ^ k / 2 ^ (size (q * 2 ^ k) - 53) ≡ 0 + k * 2 ^ 52 + q
pattern q k g h =
    ap (λ (z : ℕ). 0 + z * 2 ^ 52 + q * 2 ^ k / 2 ^ z)
    (size_at 53 (q * 2 ^ k) k (zero-lt-suc 52) (shl_lt 53 k h) (λ (l : 0 < k). le_trans (le_of_eq (pow-add 2 52 k)) (mul-le-mul_right (2 ^ k) g)))
    ∙ ap (λ (z : ℕ). 0 + k * 2 ^ 52 + z) (mul-div_cancel q (pow_pos k))

sum_bits : (s : Float) (n : ℕ) → n ≤ 1000 → HasValue s false (n + 2 ^ 52) 1 → to_bits binary64 s ≡ 1075 * 2 ^ 52 + n
sum_bits s n h v =
    to_bits_value binary64 s false ((n + 2 ^ 52) * 2 ^ 1074) (revalue s false (n + 2 ^ 52) 1 ((n + 2 ^ 52) * 2 ^ 1074) (2 ^ 1074) (zero-lt-suc 0) (sym (mul-one ((n + 2 ^ 52) * 2 ^ 1074))) v)
    ∙ pattern (n + 2 ^ 52) 1074 (omega arith) (omega arith)
    ∙ last n
  where
    last : (n : ℕ) → 0 + 1074 * 2 ^ 52 + (n + 2 ^ 52) ≡ 1075 * 2 ^ 52 + n
    last n = omega arith

not_nan : (x : Float) (s : Bool) (a c : ℕ) → HasValue x s a c → T (not (is_nan x))
unfolding is_nan
not_nan nan s a c v = absurd v
not_nan (inf t) s a c v = tt
not_nan (fin t m e) s a c v = tt

shifted : (n : ℕ) → n ≤ 1000 → (1075 * 2 ^ 52 + n) * 2 ^ 52 % 2 ^ 64 ≡ n * 2 ^ 52
shifted n h = omega arith

pub d1000_value : HasValue d1000 false 1000 1
unfolding of_bits
d1000_value = (refl, refl)

module _ (a : Float) (fit : T (fits binary64 a)) (L : Summed a) where
  small : Small binary64 a
  unfolding of_bits
  small = record { positive = L.positive; below = at_most_lt a (fin false 1 (pos 52)) 1000 1 (2 ^ 52) 1 (refl, refl) (lit< tt) (lt_at_most a d1000 1000 1 d1000_value L.below) }

  z : Parts binary64 a
  z = parts binary64 a small

  pub n : ℕ
  n = closest (A z) (C z)

  pub n_most : n ≤ 1000
  unfolding n
  n_most =
      let less = sym (lt_value a d1000 (A z) (C z) 1000 1 (C_pos z) (zero-lt-suc 0) (x_value z) d1000_value) ∙ L.below in
      closest_below (A z) (C z) (C_pos z) 1000 (strip (A z) (1000 * C z) (ltb-true (A z * 1) (1000 * C z) less))
    where
      strip : (m n : ℕ) → m * 1 < n → m < n
      strip m n h = omega arith

  s_value : HasValue (a ⊞ d2^52) false (n + 2 ^ 52) 1
  unfolding of_bits n
  s_value = sum_value z fit

  bits_are : to_bits binary64 (a ⊞ d2^52) ≡ 1075 * 2 ^ 52 + n
  bits_are = sum_bits (a ⊞ d2^52) n n_most s_value

  nearest : a ⊞ d2^52 ⊟ d2^52 ≡ whole closest a
  unfolding of_bits
  nearest = nearest_is z fit

  pub rounded : a ⊞ d2^52 ⊟ d2^52 ≡ whole half_up a
  unfolding of_bits
  rounded = half_taken z fit (a ⊞ d2^52 ⊟ d2^52) nearest L.near

  pub n_value : HasValue (a ⊞ d2^52 ⊟ d2^52) false n 1
  unfolding n
  n_value = subst (λ (y : Float). HasValue y false (closest (A z) (C z)) 1) (sym nearest) (whole_value z fit closest closest_one)

  pub field : to_bits binary64 (a ⊞ d2^52) * 2 ^ 52 % 2 ^ 64 ≡ n * 2 ^ 52
  field = ap (λ (b : ℕ). b * 2 ^ 52 % 2 ^ 64) bits_are ∙ shifted n n_most

  pub s_number : T (not (is_nan (a ⊞ d2^52)))
  s_number = not_nan (a ⊞ d2^52) false (n + 2 ^ 52) 1 s_value
