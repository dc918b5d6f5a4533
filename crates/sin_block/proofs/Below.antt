-- Narrowing by a sum and a difference of the size, with the sign put back, is the definition's below 2. Assumes nothing.
use mathlib.Core.Path.{◌≡◌, refl, sym, ap, ◌∙◌, subst}
use mathlib.Core.Bool.{Bool, true, false, not, ◌&&◌, cond, false≢true}
use Prim.Native.Nat.{ℕ, ◌+◌, ◌-◌, ◌*◌, ◌/◌, ◌%◌, ◌^◌, ◌≤◌, ◌<◌}
use native.Mathlib.Nat.{le_trans, le_of_eq, mul-le-mul, mul-one, zero-lt-suc}
use native.Mathlib.Omega.{arith}
use lib.Dec.{T, leb, ltb, eqb}
use borrow.Author.Tests.{leb-true, leb-false, ltb-true, ltb-false, eqb-true, eqb-false}
use lib.Pow.{pow-add, pow_pos, pow_mono}
use lib.Ieee.{Float, nan, inf, fin, binary32, binary64, of_bits, of_fields, to_bits, mul, neg, lt, fits, is_nan, size, odd}
use lib.Ieee.Fits.{and_i, neg-fits, fits_widens}
use lib.Ieee.Bits.{nan_bits_is, to_bits-lt}
use lib.Ieee.Exact.{HasValue}
use Rattle.ieee.specs.Binary64.{◌⊠◌}
use Rattle.ieee.specs.Narrow.{narrow_of}
use Rattle.ieee.proofs.Nans.{plain_bits}
use Rattle.ieee.proofs.Fields.{fields_top, fields_mid}
use Rattle.ieee.proofs.Bounded.{Beyond, value_beyond, exact_dyadic}
use Rattle.rounding.proofs.Normal.{sign_magnitude}
use Rattle.sin_block.specs.Sizes.{d4}
use Rattle.sin_block.proofs.SureBelow.{square_below}
use Rattle.sin_block.proofs.Signed.{times_one, narrow_signed, as_fields, split, narrow_fits, narrow_number, signed_number}

-- ---- what is below 2 by its square is so by its pattern
four : HasValue d4 false (2 * 2) (1 * 1)
unfolding of_bits size odd
four = (refl, refl)

pub number : (x : Float) → lt (x ⊠ x) d4 ≡ true → T (not (is_nan x))
unfolding mul lt is_nan
number nan h = absurd (false≢true h)
number (inf s) h = tt
number (fin s m e) h = tt

module _ (x : Float) (fit : T (fits binary64 x)) (h : lt (x ⊠ x) d4 ≡ true) where
  abbrev M : ℕ
  M = to_bits binary64 x % 2 ^ 63

  abbrev s : Bool
  s = leb (2 ^ 63) (to_bits binary64 x)

  under : (b : ℕ) → b % 2 ^ 63 < 2 ^ 63
  under b = omega arith

  is : x ≡ of_fields binary64 s (M / 2 ^ 52) (M % 2 ^ 52)
  is = sym (sign_magnitude x fit) ∙ as_fields s M (under (to_bits binary64 x))

  large : 2 ^ 62 ≤ M → (b : Bool) → eqb (M / 2 ^ 52) 2047 ≡ b → Beyond s x 2 1
  large g true e =
      subst (λ (y : Float). Beyond s y 2 1)
      (sym (is ∙ fields_top binary64 s (M / 2 ^ 52) (M % 2 ^ 52) (eqb-true _ _ e) (subst (λ (y : Float). T (not (is_nan y))) is (number x h)))) refl
  large g false e =
      value_beyond ((M % 2 ^ 52 + 2 ^ 52) * 2 ^ (M / 2 ^ 52 - 1)) (2 ^ 1074) 2 1 (pow_pos 1074) x s
      (subst (λ (y : Float). HasValue y s ((M % 2 ^ 52 + 2 ^ 52) * 2 ^ (M / 2 ^ 52 - 1)) (2 ^ 1074)) (sym is) (fields_mid binary64 s (M / 2 ^ 52) (M % 2 ^ 52) (λ z. omega arith) (eqb-false _ _ e)))
      (le_trans (two (M % 2 ^ 52) (M / 2 ^ 52) (field M g)) (le_of_eq (sym (mul-one _))))
    where
      field : (M : ℕ) → 2 ^ 62 ≤ M → 1024 ≤ M / 2 ^ 52
      field M g = omega arith

      leading : (t : ℕ) → 2 ^ 52 ≤ t + 2 ^ 52
      leading t = omega arith

      place : (x : ℕ) → 1024 ≤ x → 1023 ≤ x - 1
      place x l = omega arith

      two : (t x : ℕ) → 1024 ≤ x → 2 * 2 ^ 1074 ≤ (t + 2 ^ 52) * 2 ^ (x - 1)
      two t x l = le_trans (le_of_eq (sym (pow-add 2 1 1074) ∙ pow-add 2 52 1023)) (mul-le-mul (leading t) (pow_mono (place x l)))

  pub small : (b : Bool) → ltb M (2 ^ 62) ≡ b → M < 2 ^ 62
  small true e = ltb-true _ _ e
  small false e =
      absurd (square_below x s d4 2 1 (zero-lt-suc 1) (zero-lt-suc 0) (exact_dyadic binary64 4 0 (omega arith) (omega arith)) four h (large (ltb-false _ _ e) (eqb (M / 2 ^ 52) 2047) refl))

-- ---- the sign's digit
top : (b : ℕ) → b < 2 ^ 64 → (t : Bool) → leb (2 ^ 63) b ≡ t → b / 2 ^ 63 * 2 ^ 63 % 2 ^ 64 ≡ cond t (2 ^ 63) 0
top b h true e = let l = leb-true (2 ^ 63) b e in (let q : b / 2 ^ 63 ≡ 1 = omega arith in ap (λ (n : ℕ). n * 2 ^ 63 % 2 ^ 64) q)
top b h false e = let l = leb-false (2 ^ 63) b e in (let q : b / 2 ^ 63 ≡ 0 = omega arith in ap (λ (n : ℕ). n * 2 ^ 63 % 2 ^ 64) q)

pub sign_small : (b : ℕ) → b < 2 ^ 64 → b / 2 ^ 63 * 2 ^ 63 % 2 ^ 64 ≤ 2 ^ 63
sign_small b h = omega arith

pub one_plain : (b : ℕ) → b < 2 ^ 64 → (b / 2 ^ 63 * 2 ^ 63 % 2 ^ 64 + 0x3ff0_0000_0000_0000) % 2 ^ 63 ≤ 0x7ff0_0000_0000_0000
one_plain b h = go (leb (2 ^ 63) b) (top b h (leb (2 ^ 63) b) refl)
  where
    go : (t : Bool) → b / 2 ^ 63 * 2 ^ 63 % 2 ^ 64 ≡ cond t (2 ^ 63) 0 → (b / 2 ^ 63 * 2 ^ 63 % 2 ^ 64 + 0x3ff0_0000_0000_0000) % 2 ^ 63 ≤ 0x7ff0_0000_0000_0000
    go true e = omega arith
    go false e = omega arith

-- ---- z is the size of v narrowed, where v is below 2
module _ (v z : Float) (fit : T (fits binary64 v)) (is : z ≡ narrow_of (of_bits binary64 (to_bits binary64 v % 2 ^ 62))) where
  abbrev b : ℕ
  b = to_bits binary64 v

  abbrev minus : Bool
  minus = leb (2 ^ 63) b

  abbrev one : Float
  one = of_bits binary64 (b / 2 ^ 63 * 2 ^ 63 % 2 ^ 64 + 0x3ff0_0000_0000_0000)

  z_fits : T (fits binary32 z)
  z_fits = subst (λ (y : Float). T (fits binary32 y)) (sym is) (narrow_fits (of_bits binary64 (b % 2 ^ 62)))

  z_number : T (not (is_nan z))
  z_number =
      subst (λ (y : Float). T (not (is_nan y))) (sym is)
      (narrow_number (of_bits binary64 (b % 2 ^ 62)) (subst (λ (t : Bool). T (not t)) (nan_bits_is binary64 (b % 2 ^ 62)) (plain_bits binary64 (b % 2 ^ 62) (few b))))
    where
      few : (b : ℕ) → b % 2 ^ 62 % 2 ^ 63 ≤ 0x7ff0_0000_0000_0000
      few b = omega arith

  product : z ⊠ one ≡ cond minus (neg z) z
  product = ap (λ (n : ℕ). z ⊠ of_bits binary64 (n + 0x3ff0_0000_0000_0000)) (top b (to_bits-lt binary64 v fit) minus refl) ∙ times_one minus z (fits_widens z z_fits)

  pub castable : T (fits binary32 (z ⊠ one) && not (is_nan (z ⊠ one)))
  castable =
      subst (λ (y : Float). T (fits binary32 y && not (is_nan y))) (sym product)
      (and_i (fits binary32 (cond minus (neg z) z)) (not (is_nan (cond minus (neg z) z))) (go minus) (signed_number minus z z_number))
    where
      go : (t : Bool) → T (fits binary32 (cond t (neg z) z))
      go true = neg-fits binary32 z z_fits
      go false = z_fits

  pub below_two : (x : Float) → lt (x ⊠ x) d4 ≡ true → v ≡ x → z ⊠ one ≡ narrow_of x
  below_two x h e =
      product ∙ ap (λ (y : Float). cond minus (neg y) y) (is ∙ ap (λ (n : ℕ). narrow_of (of_bits binary64 n)) (whole b few))
      ∙ narrow_signed minus (of_bits binary64 (b % 2 ^ 63)) ∙ ap narrow_of (sym (split v fit) ∙ e)
    where
      few : b % 2 ^ 63 < 2 ^ 62
      few = small v fit (subst (λ (y : Float). lt (y ⊠ y) d4 ≡ true) (sym e) h) (ltb (b % 2 ^ 63) (2 ^ 62)) refl

      whole : (b : ℕ) → b % 2 ^ 63 < 2 ^ 62 → b % 2 ^ 62 ≡ b % 2 ^ 63
      whole b h = omega arith
