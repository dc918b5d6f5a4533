-- The exponent and the digits that `ln_split` reads off a pattern, and the fold of the exponent. Assumes nothing.
use mathlib.Core.Path.{◌≡◌, sym, ap, ◌∙◌, subst}
use mathlib.Core.Bool.{Bool, true, false, not, cond}
use Prim.Native.Nat.{ℕ, suc, ◌+◌, ◌-◌, ◌*◌, ◌%◌, ◌^◌, ◌<◌, ◌≤◌}
use native.Mathlib.Nat.{lt_trans}
use native.Mathlib.Omega.{arith}
use lib.Dec.{T, ltb, lit<}
use lib.Bits.{bit_and, bit_or, mask_lt, or_shifted_r}
use lib.IntN.{ℤ, pos, negsuc, ◌+ℤ◌, ◌-ℤ◌}
use lib.Signed.{mag}
use lib.Ieee.{Float, binary64, nan_bits, lt}
use mir.Syntax.{w64}
use mir.Val.{SFits, to_z, of_z}
use mir.Facts.{to_z_pos}
use Rattle.det.specs.Ln.{SQRT·2, fold_exp}
use Rattle.ieee.proofs.Nans.{plain_bits}
use Rattle.float.proofs.Signed.{back}

either_small : (b : Bool) (x y top : ℕ) → x < top → y < top → mag (cond b (negsuc x) (pos y)) < top
either_small true x y top p q = p
either_small false x y top p q = q

-- n - 1023 for a field n: it fits an i64, is read back as it is, and is small
module _ (n : ℕ) (h : n < 2048) where
  small : mag (pos n -ℤ pos 1023) < 2048
  small = either_small (ltb n 1023) (1023 - suc n) (n - 1023) 2048 (omega arith) (omega arith)

  wide : mag (pos n -ℤ pos 1023) < 2 ^ 63
  wide = lt_trans small (lit< tt)

  exponent : to_z w64 n -ℤ pos 1023 ≡ pos n -ℤ pos 1023
  exponent = ap (λ (z : ℤ). z -ℤ pos 1023) (to_z_pos w64 (lt_trans h (lit< tt)))

  pub exponent_fits : SFits w64 (to_z w64 n -ℤ pos 1023)
  exponent_fits = subst (SFits w64) (sym exponent) (record { sfits = wide })

  pub exponent_is : to_z w64 (of_z w64 (to_z w64 n -ℤ pos 1023)) ≡ pos n -ℤ pos 1023
  exponent_is = ap (λ (z : ℤ). to_z w64 (of_z w64 z)) exponent ∙ back (pos n -ℤ pos 1023) wide

  pub exponent_small : mag (to_z w64 (of_z w64 (to_z w64 n -ℤ pos 1023))) < 2048
  exponent_small = subst (λ (z : ℤ). mag z < 2048) (sym exponent_is) small

-- one more
next_small : (z : ℤ) → mag z < 2048 → mag (z +ℤ pos 1) < 2049
next_small (pos a) h = omega arith
next_small (negsuc a) h = either_small (ltb 1 (suc a)) (suc a - 2) (1 - suc a) 2049 (omega arith) (omega arith)

module _ (z : ℤ) (h : mag z < 2048) where
  next : to_z w64 (of_z w64 z) +ℤ pos 1 ≡ z +ℤ pos 1
  next = ap (λ (y : ℤ). y +ℤ pos 1) (back z (lt_trans h (lit< tt)))

  wide_next : mag (z +ℤ pos 1) < 2 ^ 63
  wide_next = lt_trans (next_small z h) (lit< tt)

  pub next_fits : SFits w64 (to_z w64 (of_z w64 z) +ℤ pos 1)
  next_fits = subst (SFits w64) (sym next) (record { sfits = wide_next })

  pub next_is : to_z w64 (of_z w64 (to_z w64 (of_z w64 z) +ℤ pos 1)) ≡ z +ℤ pos 1
  next_is = ap (λ (y : ℤ). to_z w64 (of_z w64 y)) next ∙ back (z +ℤ pos 1) wide_next

-- what the fold gives is a whole number that f64 has
either_fold : (b : Bool) (z : ℤ) → mag z < 2048 → mag (cond b (z +ℤ pos 1) z) < 2049
either_fold true z h = next_small z h
either_fold false z h = lt_trans h (lit< tt)

pub fold_small : (r : ℤ) (m : Float) (z : ℤ) → r ≡ fold_exp m z → mag z < 2048 → mag (to_z w64 (of_z w64 r)) < 2049
fold_small r m z e h =
    let s : mag r < 2049 = subst (λ (y : ℤ). mag y < 2049) (sym e) (either_fold (lt SQRT·2 m) z h) in
    subst (λ (y : ℤ). mag y < 2049) (sym (back r (lt_trans s (lit< tt)))) s

-- digits with the field 1023 are no NaN's pattern
low_digits : (d : ℕ) → d < 2 ^ 52 → (1023 * 2 ^ 52 + d) % 2 ^ 63 ≤ 0x7ff0_0000_0000_0000
low_digits d h = omega arith

pub mantissa_number : (bits : ℕ) → T (not (nan_bits binary64 (bit_or (bit_and bits 0x000f_ffff_ffff_ffff) (1023 * 2 ^ 52))))
mantissa_number bits =
    let d = bit_and bits 0x000f_ffff_ffff_ffff in
    let h : d < 2 ^ 52 = mask_lt bits 52 in
    plain_bits binary64 (bit_or d (1023 * 2 ^ 52))
    (subst (λ (n : ℕ). n % 2 ^ 63 ≤ 0x7ff0_0000_0000_0000) (sym (or_shifted_r 1023 52 d h)) (low_digits d h))
