-- Rounding q * 2 ^ k of the smallest binary64 values to binary32, from digits that are brought to place 62; and what the three fields of an `f64`'s pattern say of its value.
-- Assumes nothing.
use Rattle.std.proofs.Common.{◌≡◌, ℕ, ◌+◌, ◌-◌, ◌*◌, ◌/◌, ◌^◌, ◌<◌, ◌≤◌, Bool, true, false, cond, not, T, sym, refl, ap, ◌∙◌, le_trans, le_of_eq, lt_of_lt_of_le, mul-le-mul_right}
use Rattle.std.proofs.Common.{zero-lt-suc, mul_assoc, div-lt_iff_lt-mul, mul-pos, le-div_iff_mul-le, mul_right_comm, arith, pow_pos, pow_mono, pow-add, shl_lt}
use lib.Ieee.{Float, inf, fin, binary32, binary64, up, down, size, units, round, fits, is_nan, of_bits}
use lib.Ieee.Fits.{round_is, down_pos}
use lib.Ieee.Exact.{HasValue}
use lib.Ieee.Nearest.{closest, closest_same, div_same}
use lib.Ieee.Scale.{round_same}
use Rattle.ieee.specs.Narrow.{narrow_of}
use Rattle.ieee.proofs.Digits.{size_at}
use Rattle.ieee.proofs.Fields.{the_sign, the_field, the_digits, is_inf, low_value, mid_value}

-- ---- the rounding. The exponents are variables here, since their powers have hundreds of digits
pow₃ : (a b c : ℕ) → 2 ^ (a + b + c) ≡ 2 ^ a * 2 ^ b * 2 ^ c
pow₃ a b c = pow-add 2 (a + b) c ∙ ap (λ (n : ℕ). n * 2 ^ c) (pow-add 2 a b)

scale : (q k z d j lo hi : ℕ) → k + lo + d ≡ z + hi + j → q * 2 ^ k * 2 ^ lo * 2 ^ d ≡ q * 2 ^ z * (2 ^ hi * 2 ^ j)
scale q k z d j lo hi e =
    ap (λ (n : ℕ). n * 2 ^ d) (mul_assoc q (2 ^ k) (2 ^ lo))
    ∙ mul_assoc q (2 ^ k * 2 ^ lo) (2 ^ d)
    ∙ ap (λ (n : ℕ). q * n) (sym (pow₃ k lo d) ∙ ap (λ (n : ℕ). 2 ^ n) e ∙ pow₃ z hi j ∙ mul_assoc (2 ^ z) (2 ^ hi) (2 ^ j))
    ∙ sym (mul_assoc q (2 ^ z) (2 ^ hi * 2 ^ j))

-- the whole part of the fraction in units, once it is normalised
whole_part : (q k z d j lo hi : ℕ) → k + lo + d ≡ z + hi + j → q * 2 ^ k * 2 ^ lo / 2 ^ hi ≡ q * 2 ^ z * 2 ^ j / 2 ^ d
whole_part q k z d j lo hi e =
    div_same (q * 2 ^ k * 2 ^ lo) (2 ^ hi) (q * 2 ^ z * 2 ^ j) (2 ^ d) (pow_pos hi) (pow_pos d)
    (scale q k z d j lo hi e ∙ sym (mul_assoc (q * 2 ^ z) (2 ^ hi) (2 ^ j)) ∙ mul_right_comm (q * 2 ^ z) (2 ^ hi) (2 ^ j))

digits_below : (Q d j : ℕ) → Q < 2 ^ 63 → 39 ≤ d → Q * 2 ^ j / 2 ^ d < 2 ^ (24 + j)
digits_below Q d j h l =
    (div-lt_iff_lt-mul (pow_pos d)).1
    (lt_of_lt_of_le (shl_lt 63 j h) (le_trans (pow_mono (room d j l)) (le_of_eq (pow-add 2 (24 + j) d))))
  where
    room : (d j : ℕ) → 39 ≤ d → 63 + j ≤ 24 + j + d
    room d j l = omega arith

digits_above : (Q d j : ℕ) → 2 ^ (23 + d) ≤ Q → 2 ^ (23 + j) ≤ Q * 2 ^ j / 2 ^ d
digits_above Q d j h =
    (le-div_iff_mul-le (pow_pos d)).1
    (le_trans (le_of_eq (sym (pow-add 2 (23 + j) d) ∙ ap (λ (n : ℕ). 2 ^ n) (swap d j) ∙ pow-add 2 (23 + d) j)) (mul-le-mul_right (2 ^ j) h))
  where
    swap : (d j : ℕ) → 23 + j + d ≡ 23 + d + j
    swap d j = omega arith

pub rounded : (s : Bool) (q k z d j : ℕ) → k + 149 + d ≡ z + 1074 + j → q * 2 ^ z < 2 ^ 63 → 39 ≤ d → (0 < j → 2 ^ (23 + d) ≤ q * 2 ^ z)
    → round binary32 s (q * 2 ^ k) (2 ^ 1074) ≡ units binary32 s (closest (q * 2 ^ z) (2 ^ d)) j
rounded s q k z d j e h l g =
    let n = q * 2 ^ k * 2 ^ 149 in
    let is : size (n / 2 ^ 1074) - 24 ≡ j =
    ap (λ (w : ℕ). size w - 24) (whole_part q k z d j 149 1074 e)
    ∙ size_at 24 (q * 2 ^ z * 2 ^ j / 2 ^ d) j (zero-lt-suc 23) (digits_below (q * 2 ^ z) d j h l) (λ (p : 0 < j). digits_above (q * 2 ^ z) d j (g p)) in
    round_is binary32 s (q * 2 ^ k) (2 ^ 1074)
    ∙ ap (λ (i : ℕ). units binary32 s (closest n (2 ^ 1074 * 2 ^ i)) i) is
    ∙ ap (λ (r : ℕ). units binary32 s r j) (closest_same n (2 ^ 1074 * 2 ^ j) (q * 2 ^ z) (2 ^ d) (mul-pos (pow_pos 1074) (pow_pos j)) (pow_pos d) (scale q k z d j 149 1074 e))

-- ---- what an `f64` is, by its pattern
pub narrow_at : (x : Float) (s : Bool) (a c : ℕ) → 0 < c → HasValue x s a c → narrow_of x ≡ round binary32 s a c
unfolding narrow_of
narrow_at (fin t m e) s a c C v =
    (λ i. round binary32 (v.0 i) (m * up e) (down e)) ∙ round_same binary32 s (m * up e) (down e) a c (down_pos e) C v.1
narrow_at lib.Ieee.nan s a c C v = elim v [ ]
narrow_at (inf _) s a c C v = elim v [ ]

-- ---- the cases of the code, by the fields of x
module _ (x : Float) (fit : T (fits binary64 x)) where
  abbrev pub sign : Bool
  sign = the_sign binary64 x fit

  abbrev pub field : ℕ
  field = the_field binary64 x fit

  abbrev pub digits : ℕ
  digits = the_digits binary64 x fit

  pub case_top : T (not (is_nan x)) → field ≡ 0x7ff → inf sign ≡ narrow_of x
  unfolding narrow_of
  case_top n e = sym (ap narrow_of (is_inf binary64 x fit n e))

  pub case_low : field ≡ 0 → round binary32 sign (digits * 2 ^ 0) (2 ^ 1074) ≡ narrow_of x
  case_low e = sym (narrow_at x sign (digits * 2 ^ 0) (2 ^ 1074) (pow_pos 1074) (low_value binary64 x fit e))

  pub case_mid : (field ≡ 0 → ⊥) → (field ≡ 0x7ff → ⊥) → round binary32 sign ((digits + 2 ^ 52) * 2 ^ (field - 1)) (2 ^ 1074) ≡ narrow_of x
  case_mid p n = sym (narrow_at x sign ((digits + 2 ^ 52) * 2 ^ (field - 1)) (2 ^ 1074) (pow_pos 1074) (mid_value binary64 x fit p n))

-- ---- a zero as the code writes it
zero_is : (s : Bool) → of_bits binary32 (cond s (2 ^ 31) 0 + 0) ≡ round binary32 s (0 * 2 ^ 0) (2 ^ 1074)
unfolding of_bits round
zero_is true = refl
zero_is false = refl

pub case_zero : (s : Bool) (t : ℕ) → t ≡ 0 → of_bits binary32 (cond s (2 ^ 31) 0 + 0) ≡ round binary32 s (t * 2 ^ 0) (2 ^ 1074)
case_zero s t e = zero_is s ∙ ap (λ (t : ℕ). round binary32 s (t * 2 ^ 0) (2 ^ 1074)) (sym e)
