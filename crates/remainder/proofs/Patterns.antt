-- The value of a pattern by its significand and its place, and that patterns are in the order of their values. Assumes nothing.
use mathlib.Core.Path.{◌≡◌, refl, sym, ap, ◌∙◌, subst}
use mathlib.Core.Logic.{inl, inr}
use Prim.Native.Nat.{ℕ, ◌+◌, ◌-◌, ◌*◌, ◌/◌, ◌%◌, ◌^◌, ◌≤◌, ◌<◌}
use native.Mathlib.Nat.{le_trans, le_of_eq, lt_of_lt_of_le, eq-or-lt_of_le, mul-pos, mul-le-mul_right, mul-lt-mul_of_pos_right}
use native.Mathlib.Omega.{arith}
use mathlib.Core.Bool.{Bool, true, false, not, cond}
use lib.Dec.{T, ltb, leb, ltb→lt, nltb→le}
use borrow.Author.Tests.{ltb-true, ltb-false}
use lib.Pow.{pow-add, pow_pos, pow_mono}
use lib.Ieee.{Float, nan, inf, binary32, fits, is_nan, of_fields, to_bits}
use lib.Ieee.Exact.{HasValue}
use lib.Ieee.Bits.{of_bits-to_bits}
use Rattle.ieee.proofs.Fields.{as_fields, fields_top, fields_low, fields_mid}
use Rattle.ieee.proofs.Nans.{nan_bits_lem}
use Rattle.remainder.specs.Parts.{significand_of, place_of, units_of}

-- ---- the two parts
pub significand_low : (p : ℕ) → p < 2 ^ 23 → significand_of p ≡ p % 2 ^ 23
unfolding significand_of
significand_low p h = ap (λ (b : Bool). cond b (p % 2 ^ 23) (p % 2 ^ 23 + 2 ^ 23)) (go (ltb p (2 ^ 23)) refl)
  where
    go : (b : Bool) → ltb p (2 ^ 23) ≡ b → ltb p (2 ^ 23) ≡ true
    go true e = e
    go false e = absurd (let l = ltb-false p (2 ^ 23) e in let no : ⊥ = omega arith in no)

pub significand_mid : (p : ℕ) → 2 ^ 23 ≤ p → significand_of p ≡ p % 2 ^ 23 + 2 ^ 23
unfolding significand_of
significand_mid p h = ap (λ (b : Bool). cond b (p % 2 ^ 23) (p % 2 ^ 23 + 2 ^ 23)) (go (ltb p (2 ^ 23)) refl)
  where
    go : (b : Bool) → ltb p (2 ^ 23) ≡ b → ltb p (2 ^ 23) ≡ false
    go true e = absurd (let l = ltb-true p (2 ^ 23) e in let no : ⊥ = omega arith in no)
    go false e = e

pub place_low : (p : ℕ) → p < 2 ^ 23 → 0 ≡ place_of p
unfolding place_of
place_low p h = omega arith

pub place_lt : (p : ℕ) → p < 0x7f80_0000 → place_of p < 254
unfolding place_of
place_lt p h = omega arith

pub place_le : (p q : ℕ) → p ≤ q → place_of p ≤ place_of q
unfolding place_of
place_le p q h = omega arith

by_size : {X : Type 0} (p : ℕ) → (p < 2 ^ 23 → X) → (2 ^ 23 ≤ p → X) → X
by_size {X} p f g = go (ltb p (2 ^ 23)) (ltb→lt p (2 ^ 23)) (nltb→le p (2 ^ 23))
  where
    go : (b : Bool) → (T b → p < 2 ^ 23) → (T (not b) → 2 ^ 23 ≤ p) → X
    go true h k = f (h tt)
    go false h k = g (k tt)

pub significand_lt : (p : ℕ) → significand_of p < 2 ^ 24
significand_lt p = by_size p
    (λ h. rw (significand_low p h) (less p))
    (λ h. rw (significand_mid p h) (more p))
  where
    less : (p : ℕ) → p % 2 ^ 23 < 2 ^ 24
    less p = omega arith

    more : (p : ℕ) → p % 2 ^ 23 + 2 ^ 23 < 2 ^ 24
    more p = omega arith

pub significand_pos : (p : ℕ) → 0 < p → 0 < significand_of p
significand_pos p P = by_size p (λ h. rw (significand_low p h) (low p P h)) (λ h. rw (significand_mid p h) (mid p))
  where
    low : (p : ℕ) → 0 < p → p < 2 ^ 23 → 0 < p % 2 ^ 23
    low p P h = omega arith

    mid : (p : ℕ) → 0 < p % 2 ^ 23 + 2 ^ 23
    mid p = omega arith

pub units_pos : (p : ℕ) → 0 < p → 0 < units_of p
units_pos p P = mul-pos (significand_pos p P) (pow_pos (place_of p))

-- ---- the order
same_place : (p q : ℕ) → p < q → place_of p ≡ place_of q → significand_of p < significand_of q
same_place p q l e = by_size p
    (λ h. by_size q
    (λ k. rw (significand_low p h, significand_low q k) (low p q l k))
    (λ k. rw (significand_low p h, significand_mid q k) (across p q)))
    (λ h. let k : 2 ^ 23 ≤ q = omega arith in rw (significand_mid p h, significand_mid q k) (mid p q l h k e))
  where
    low : (p q : ℕ) → p < q → q < 2 ^ 23 → p % 2 ^ 23 < q % 2 ^ 23
    low p q l k = omega arith

    across : (p q : ℕ) → p % 2 ^ 23 < q % 2 ^ 23 + 2 ^ 23
    across p q = omega arith

    mid : (p q : ℕ) → p < q → 2 ^ 23 ≤ p → 2 ^ 23 ≤ q → place_of p ≡ place_of q → p % 2 ^ 23 + 2 ^ 23 < q % 2 ^ 23 + 2 ^ 23
    mid p q l h k e = unfold place_of in omega arith

next_place : (p q : ℕ) → place_of p < place_of q → units_of p < units_of q
next_place p q l =
    lt_of_lt_of_le (mul-lt-mul_of_pos_right (significand_lt p) (pow_pos (place_of p)))
    (le_trans (le_of_eq (sym (pow-add 2 24 (place_of p))))
    (le_trans (pow_mono {j = 23 + place_of q} (room (place_of p) (place_of q) l))
    (le_trans (le_of_eq (pow-add 2 23 (place_of q))) (mul-le-mul_right (2 ^ place_of q) full))))
  where
    room : (a b : ℕ) → a < b → 24 + a ≤ 23 + b
    room a b l = omega arith

    large : place_of p < place_of q → 2 ^ 23 ≤ q
    large l = unfold place_of in omega arith

    full : 2 ^ 23 ≤ significand_of q
    full = rw (significand_mid q (large l)) (omega arith)

pub units_lt : (p q : ℕ) → p < q → units_of p < units_of q
units_lt p q l = elim (eq-or-lt_of_le (place_le p q (omega arith))) [
  | inl e ↦ subst (λ (k : ℕ). units_of p < significand_of q * 2 ^ k) e (mul-lt-mul_of_pos_right (same_place p q l e) (pow_pos (place_of p)))
  | inr k ↦ next_place p q k
]

-- ---- the value of a float by its pattern
module _ (x : Float) (fit : T (fits binary32 x)) (number : T (not (is_nan x))) where
  abbrev pub sign : Bool
  sign = leb (2 ^ 31) (to_bits binary32 x)

  abbrev pub magnitude : ℕ
  magnitude = to_bits binary32 x % 2 ^ 31

  same_digits : to_bits binary32 x % 2 ^ 23 ≡ magnitude % 2 ^ 23
  same_digits = omega arith

  fields_are : x ≡ of_fields binary32 sign (magnitude / 2 ^ 23) (magnitude % 2 ^ 23)
  fields_are = as_fields binary32 x fit ∙ ap (λ (t : ℕ). of_fields binary32 sign (magnitude / 2 ^ 23) t) same_digits

  -- no NaN's pattern
  pub magnitude_le : magnitude ≤ 0x7f80_0000
  magnitude_le = go (ltb 0x7f80_0000 magnitude) (ltb→lt 0x7f80_0000 magnitude) (nltb→le 0x7f80_0000 magnitude)
    where
      is_none : T (not (is_nan nan)) → ⊥
      is_none t = unfold is_nan in t

      none : (y : Float) → nan ≡ y → T (not (is_nan y)) → ⊥
      none y e n = is_none (subst (λ (z : Float). T (not (is_nan z))) (sym e) n)

      go : (b : Bool) → (T b → 0x7f80_0000 < magnitude) → (T (not b) → magnitude ≤ 0x7f80_0000) → magnitude ≤ 0x7f80_0000
      go true h k = absurd (none x (nan_bits_lem binary32 (to_bits binary32 x) (h tt) ∙ of_bits-to_bits binary32 x fit) number)
      go false h k = k tt

  pub infinite : magnitude ≡ 0x7f80_0000 → x ≡ inf sign
  infinite e =
      fields_are
      ∙ fields_top binary32 sign (magnitude / 2 ^ 23) (magnitude % 2 ^ 23) (ap (λ (n : ℕ). n / 2 ^ 23) e) (subst (λ (y : Float). T (not (is_nan y))) fields_are number)

  pub finite : magnitude < 0x7f80_0000 → HasValue x sign (units_of magnitude) (2 ^ 149)
  finite l =
      subst (λ (y : Float). HasValue y sign (units_of magnitude) (2 ^ 149)) (sym fields_are)
      (by_size magnitude
      (λ h. subst (λ (n : ℕ). HasValue (of_fields binary32 sign (magnitude / 2 ^ 23) (magnitude % 2 ^ 23)) sign n (2 ^ 149))
      ((λ i. sym (significand_low magnitude h) i * 2 ^ place_low magnitude h i))
      (fields_low binary32 sign (magnitude / 2 ^ 23) (magnitude % 2 ^ 23) (low magnitude h)))
      (λ h. subst (λ (n : ℕ). HasValue (of_fields binary32 sign (magnitude / 2 ^ 23) (magnitude % 2 ^ 23)) sign n (2 ^ 149))
      ((λ i. sym (significand_mid magnitude h) i * 2 ^ placed magnitude i))
      (fields_mid binary32 sign (magnitude / 2 ^ 23) (magnitude % 2 ^ 23) (λ e. not_low magnitude h e) (λ e. not_top magnitude l e))))
    where
      low : (p : ℕ) → p < 2 ^ 23 → p / 2 ^ 23 ≡ 0
      low p h = omega arith

      placed : (p : ℕ) → p / 2 ^ 23 - 1 ≡ place_of p
      placed p = unfold place_of in refl

      not_low : (p : ℕ) → 2 ^ 23 ≤ p → p / 2 ^ 23 ≡ 0 → ⊥
      not_low p h e = omega arith

      not_top : (p : ℕ) → p < 0x7f80_0000 → p / 2 ^ 23 ≡ 255 → ⊥
      not_top p h e = omega arith
