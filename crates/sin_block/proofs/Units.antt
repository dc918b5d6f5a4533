-- The constant that a size below 2 is narrowed with, from the exponent's field of its pattern. Assumes nothing.
use mathlib.Core.Path.{◌≡◌, refl, sym, ap, ◌∙◌, subst}
use mathlib.Core.Bool.{Bool, true, false, cond}
use Prim.Native.Nat.{ℕ, ◌+◌, ◌-◌, ◌*◌, ◌/◌, ◌%◌, ◌^◌, ◌≤◌, ◌<◌}
use native.Mathlib.Nat.{le_trans, le_of_eq, lt_of_lt_of_le, lt_of_le_of_lt, mul-le-mul_right, mul-lt-mul_of_pos_right, not-le_of_lt, le_of_suc-le-suc, lt_of_not-le}
use native.Mathlib.Omega.{arith}
use lib.Dec.{ltb, lit≤}
use borrow.Author.Tests.{ltb-true, ltb-false}
use lib.Pow.{pow-add, pow_pos, pow_mono, pow-lt}
use lib.Ieee.{Float, binary64, of_bits, of_fields, add, sub, lt, size, odd}
use lib.Ieee.Exact.{HasValue}
use Rattle.ieee.specs.Narrow.{narrow_of}
use Rattle.ieee.proofs.Value.{revalue, lt_value}
use Rattle.ieee.proofs.Fields.{fields_low, fields_mid}
use Rattle.sin_block.specs.Sizes.{d2^-97}
use Rattle.sin_block.proofs.Signed.{plain}
use Rattle.sin_block.proofs.Narrow.{narrow_add_sub}

least_value : HasValue d2^-97 false (2 ^ (52 + 0)) (2 ^ 149)
unfolding of_bits size odd
least_value = (refl, refl)

-- ---- powers, as variables
three : (a b c : ℕ) → 2 ^ a * 2 ^ b * 2 ^ c ≡ 2 ^ (a + b + c)
three a b c = ap (λ (n : ℕ). n * 2 ^ c) (sym (pow-add 2 a b)) ∙ sym (pow-add 2 (a + b) c)

powers_le : (a b c d e : ℕ) → a + b + c ≤ d + e → 2 ^ a * 2 ^ b * 2 ^ c ≤ 2 ^ d * 2 ^ e
powers_le a b c d e h = le_trans (le_of_eq (three a b c)) (le_trans (pow_mono h) (le_of_eq (pow-add 2 d e)))

powers_lt : (a b c d e : ℕ) → d + e < a + b + c → 2 ^ d * 2 ^ e < 2 ^ a * 2 ^ b * 2 ^ c
powers_lt a b c d e h = lt_of_le_of_lt (le_of_eq (sym (pow-add 2 d e))) (lt_of_lt_of_le (pow-lt h) (le_of_eq (sym (three a b c))))

powers_eq : (a b c d e : ℕ) → a + b + c ≡ d + e → 2 ^ a * 2 ^ b * 2 ^ c ≡ 2 ^ d * 2 ^ e
powers_eq a b c d e h = three a b c ∙ ap (λ (n : ℕ). 2 ^ n) h ∙ pow-add 2 d e

-- ---- the size's field x and its digits t, and the field of the constant
module _ (x t : ℕ) (T-lt : t < 2 ^ 52) (X : x < 1024) where
  abbrev w : Float
  w = of_fields binary64 false x t

  abbrev unit : Float
  unit = of_fields binary64 false (x + 29) 0

  unit_value : HasValue unit false (2 ^ 52 * 2 ^ (x + 28)) (2 ^ 1074)
  unit_value = subst (λ (n : ℕ). HasValue unit false (2 ^ 52 * 2 ^ n) (2 ^ 1074)) (less x) (fields_mid binary64 false (x + 29) 0 (λ e. omega arith) (λ e. omega arith))
    where
      less : (x : ℕ) → x + 29 - 1 ≡ x + 28
      less x = omega arith

  test : lt d2^-97 unit ≡ ltb (2 ^ 52 * 2 ^ 1074) (2 ^ 52 * 2 ^ (x + 28) * 2 ^ 149)
  test = lt_value d2^-97 unit (2 ^ 52) (2 ^ 149) (2 ^ 52 * 2 ^ (x + 28)) (2 ^ 1074) (pow_pos 149) (pow_pos 1074) least_value unit_value

  high : lt d2^-97 unit ≡ true → 897 < x
  high h = lt_of_not-le (λ (l : x ≤ 897). not-le_of_lt (ltb-true _ _ (sym test ∙ h)) (powers_le 52 (x + 28) 149 52 1074 (room x l)))
    where
      room : (x : ℕ) → x ≤ 897 → 52 + (x + 28) + 149 ≤ 52 + 1074
      room x l = omega arith

  low : lt d2^-97 unit ≡ false → x ≤ 897
  low h = le_of_suc-le-suc (lt_of_not-le (λ (l : 898 ≤ x). not-le_of_lt (powers_lt 52 (x + 28) 149 52 1074 (room x l)) (ltb-false _ _ (sym test ∙ h))))
    where
      room : (x : ℕ) → 898 ≤ x → 52 + 1074 < 52 + (x + 28) + 149
      room x l = omega arith

  -- ---- a normal size
  mid : 0 < x → HasValue w false ((t + 2 ^ 52) * 2 ^ (x - 1)) (2 ^ 1074)
  mid h = fields_mid binary64 false x t (λ e. omega arith) (λ e. omega arith)

  digits : t + 2 ^ 52 < 2 ^ 53
  digits = omega arith

  leading : 2 ^ 52 ≤ t + 2 ^ 52
  leading = omega arith

  most : (j : ℕ) → 0 < x → x ≤ 897 + j → (t + 2 ^ 52) * 2 ^ (x - 1) * 2 ^ 149 < 2 ^ (24 + j) * 2 ^ 1074
  most j p h =
      lt_of_lt_of_le (mul-lt-mul_of_pos_right (mul-lt-mul_of_pos_right digits (pow_pos (x - 1))) (pow_pos 149)) (powers_le 53 (x - 1) 149 (24 + j) 1074 (room x j p h))
    where
      room : (x j : ℕ) → 0 < x → x ≤ 897 + j → 53 + (x - 1) + 149 ≤ 24 + j + 1074
      room x j p h = omega arith

  least : (j : ℕ) → x ≡ 897 + j → 2 ^ (23 + j) * 2 ^ 1074 ≤ (t + 2 ^ 52) * 2 ^ (x - 1) * 2 ^ 149
  least j e =
      le_trans (le_of_eq (sym (powers_eq 52 (x - 1) 149 (23 + j) 1074 (room x j e)))) (mul-le-mul_right (2 ^ 149) (mul-le-mul_right (2 ^ (x - 1)) leading))
    where
      room : (x j : ℕ) → x ≡ 897 + j → 52 + (x - 1) + 149 ≡ 23 + j + 1074
      room x j e = omega arith

  above : (j : ℕ) → x ≡ 897 + j → sub binary64 (add binary64 w unit) unit ≡ narrow_of w
  above j e =
      narrow_add_sub w unit ((t + 2 ^ 52) * 2 ^ (x - 1)) (2 ^ 1074) j (pow_pos 1074) (mid (omega arith))
      (revalue unit false (2 ^ 52 * 2 ^ (x + 28)) (2 ^ 1074) (2 ^ (52 + j)) (2 ^ 149) (pow_pos 1074) (powers_eq 52 (x + 28) 149 (52 + j) 1074 (room x j e)) unit_value)
      (λ p. least j e) (most j (omega arith) (le_of_eq e)) (omega arith)
    where
      room : (x j : ℕ) → x ≡ 897 + j → 52 + (x + 28) + 149 ≡ 52 + j + 1074
      room x j e = omega arith

  none : 0 < 0 → ⊥
  none h = omega arith

  below : x ≤ 897 → (b : Bool) → ltb 0 x ≡ b → sub binary64 (add binary64 w d2^-97) d2^-97 ≡ narrow_of w
  below h true e =
      narrow_add_sub w d2^-97 ((t + 2 ^ 52) * 2 ^ (x - 1)) (2 ^ 1074) 0 (pow_pos 1074) (mid (ltb-true 0 x e)) least_value (λ p. absurd (none p)) (most 0 (ltb-true 0 x e) h) (omega arith)
  below h false e =
      narrow_add_sub w d2^-97 (t * 2 ^ 0) (2 ^ 1074) 0 (pow_pos 1074) (fields_low binary64 false x t (omega (arith, ltb-false 0 x e))) least_value (λ p. absurd (none p)) few (omega arith)
    where
      few : t * 2 ^ 0 * 2 ^ 149 < 2 ^ (24 + 0) * 2 ^ 1074
      few = lt_of_lt_of_le (mul-lt-mul_of_pos_right (mul-lt-mul_of_pos_right T-lt (pow_pos 0)) (pow_pos 149)) (powers_le 52 0 149 24 1074 (lit≤ tt))

  taken : (b : Bool) → lt d2^-97 unit ≡ b → sub binary64 (add binary64 w (cond b unit d2^-97)) (cond b unit d2^-97) ≡ narrow_of w
  taken true h = above (x - 897) (back x (high h))
    where
      back : (x : ℕ) → 897 < x → x ≡ 897 + (x - 897)
      back x h = omega arith
  taken false h = below (low h) (ltb 0 x) refl

-- ---- from the pattern
pub narrow_size : (M : ℕ) → M < 2 ^ 62 → (k : Float)
    → k ≡ cond (lt d2^-97 (of_bits binary64 (M - M % 2 ^ 52 + 0x1d0_0000_0000_0000))) (of_bits binary64 (M - M % 2 ^ 52 + 0x1d0_0000_0000_0000)) d2^-97
    → sub binary64 (add binary64 (of_bits binary64 M) k) k ≡ narrow_of (of_bits binary64 M)
narrow_size M h k e =
    ap (λ (k : Float). sub binary64 (add binary64 (of_bits binary64 M) k) k) (e ∙ ap (λ (u : Float). cond (lt d2^-97 u) u d2^-97) unit_is)
    ∙ subst (λ (w : Float). sub binary64 (add binary64 w chosen) chosen ≡ narrow_of w) (sym (plain M (omega arith)))
    (taken (M / 2 ^ 52) (M % 2 ^ 52) (omega arith) (omega arith) (lt d2^-97 (of_fields binary64 false (M / 2 ^ 52 + 29) 0)) refl)
  where
    chosen : Float
    chosen = cond (lt d2^-97 (of_fields binary64 false (M / 2 ^ 52 + 29) 0)) (of_fields binary64 false (M / 2 ^ 52 + 29) 0) d2^-97

    field : (M - M % 2 ^ 52 + 0x1d0_0000_0000_0000) / 2 ^ 52 ≡ M / 2 ^ 52 + 29
    field = omega arith

    digits' : (M - M % 2 ^ 52 + 0x1d0_0000_0000_0000) % 2 ^ 52 ≡ 0
    digits' = omega arith

    unit_is : of_bits binary64 (M - M % 2 ^ 52 + 0x1d0_0000_0000_0000) ≡ of_fields binary64 false (M / 2 ^ 52 + 29) 0
    unit_is = plain (M - M % 2 ^ 52 + 0x1d0_0000_0000_0000) (omega arith) ∙ (λ i. of_fields binary64 false (field i) (digits' i))
