-- The sign of a value by its pattern, taken off before a value is narrowed and put back by a product with 1 or -1. Assumes nothing.
use mathlib.Core.Path.{◌≡◌, refl, sym, ap, ◌∙◌, subst}
use mathlib.Core.Bool.{Bool, true, false, not, cond}
use Prim.Native.Nat.{ℕ, zero, suc, ◌+◌, ◌*◌, ◌/◌, ◌%◌, ◌^◌, ◌≤◌, ◌<◌}
use native.Mathlib.Nat.{mul-one}
use native.Mathlib.Omega.{arith}
use lib.IntN.{ℤ}
use lib.Dec.{T, leb, ltb, eqb}
use borrow.Author.Tests.{le-leb, lt-leb}
use lib.Ieee.{Float, nan, inf, fin, Format, binary32, binary64, prec, emax, low, hid, ones, up, down, odd, units, round, mul, neg, fits, is_nan, of_bits, of_fields, to_bits, size}
use lib.Ieee.Fits.{neg-fits, round_is, round-fits}
use Rattle.ieee.specs.Narrow.{narrow_of}
use Rattle.rounding.proofs.Normal.{sign_magnitude}
use Rattle.sin_block.proofs.Zeros.{round_own}

-- ---- a product with 1 or -1
abbrev pub signed_one : Bool → ℕ
signed_one s = cond s (2 ^ 63) 0 + 0x3ff0_0000_0000_0000

times : (s t : Bool) (m : ℕ) (e : ℤ) → T (fits binary64 (fin t m e)) → round binary64 t (m * up e * (1 * 1)) (down e * 1) ≡ fin t m e
times s t m e f = (λ i. round binary64 t (mul-one (m * up e) i) (mul-one (down e) i)) ∙ round_own binary64 t m e f

pub times_one : (s : Bool) (z : Float) → T (fits binary64 z) → mul binary64 z (of_bits binary64 (signed_one s)) ≡ cond s (neg z) z
unfolding mul neg of_bits size odd
times_one true nan f = refl
times_one false nan f = refl
times_one true (inf true) f = refl
times_one true (inf false) f = refl
times_one false (inf true) f = refl
times_one false (inf false) f = refl
times_one true (fin true m e) f = times true false m e (neg-fits binary64 (fin true m e) f)
times_one true (fin false m e) f = times true true m e (neg-fits binary64 (fin false m e) f)
times_one false (fin true m e) f = times false true m e f
times_one false (fin false m e) f = times false false m e f

-- ---- what is rounded to a value is rounded to its negative with the other sign
odd_neg : (d : ℕ) (s : Bool) (q k l : ℕ) → odd d (not s) q k l ≡ neg (odd d s q k l)
unfolding odd neg
odd_neg d s zero k l = refl
odd_neg d s (suc q) k l = refl

units_neg : (f : Format) (s : Bool) (q k : ℕ) → units f (not s) q k ≡ neg (units f s q k)
unfolding units neg
units_neg f s q k = go (ltb (q * 2 ^ k) (2 ^ (low f + suc (emax f))))
  where
    go : (b : Bool) → cond b (odd (suc (prec f)) (not s) q k (low f)) (inf (not s)) ≡ neg (cond b (odd (suc (prec f)) s q k (low f)) (inf s))
    go true = odd_neg (suc (prec f)) s q k (low f)
    go false = refl

round_neg : (f : Format) (s : Bool) (a c : ℕ) → round f (not s) a c ≡ neg (round f s a c)
round_neg f s a c = round_is f (not s) a c ∙ units_neg f s _ _ ∙ ap neg (sym (round_is f s a c))

narrow_neg : (x : Float) → narrow_of (neg x) ≡ neg (narrow_of x)
unfolding narrow_of neg
narrow_neg nan = refl
narrow_neg (inf s) = refl
narrow_neg (fin s m e) = round_neg binary32 s (m * up e) (down e)

pub narrow_signed : (s : Bool) (w : Float) → cond s (neg (narrow_of w)) (narrow_of w) ≡ narrow_of (cond s (neg w) w)
narrow_signed true w = sym (narrow_neg w)
narrow_signed false w = refl

-- ---- the fields of a pattern made of a sign and a size
fields_neg : (f : Format) (x t : ℕ) → of_fields f true x t ≡ neg (of_fields f false x t)
unfolding of_fields neg
fields_neg f zero t = odd_neg (prec f) false t 0 (low f)
fields_neg f (suc x) t = go (eqb (suc x) (ones f)) (eqb t 0)
  where
    go : (b c : Bool) → cond b (cond c (inf true) nan) (odd (prec f) true (hid f + t) x (low f)) ≡ neg (cond b (cond c (inf false) nan) (odd (prec f) false (hid f + t) x (low f)))
    go true true = refl
    go true false = refl
    go false c = odd_neg (prec f) false (hid f + t) x (low f)

pub as_fields : (s : Bool) (M : ℕ) → M < 2 ^ 63 → of_bits binary64 (cond s (2 ^ 63) 0 + M) ≡ of_fields binary64 s (M / 2 ^ 52) (M % 2 ^ 52)
unfolding of_bits
as_fields true M h =
    let a : 2 ^ 63 ≤ 2 ^ 63 + M = omega arith in
    let b : (2 ^ 63 + M) % 2 ^ 63 / 2 ^ 52 ≡ M / 2 ^ 52 = omega arith in
    let c : (2 ^ 63 + M) % 2 ^ 52 ≡ M % 2 ^ 52 = omega arith in
    λ i. of_fields binary64 (le-leb (2 ^ 63) (2 ^ 63 + M) a i) (b i) (c i)
as_fields false M h =
    let a : 0 + M < 2 ^ 63 = omega arith in
    let b : (0 + M) % 2 ^ 63 / 2 ^ 52 ≡ M / 2 ^ 52 = omega arith in
    let c : (0 + M) % 2 ^ 52 ≡ M % 2 ^ 52 = omega arith in
    λ i. of_fields binary64 (lt-leb (2 ^ 63) (0 + M) a i) (b i) (c i)

pub plain : (M : ℕ) → M < 2 ^ 63 → of_bits binary64 M ≡ of_fields binary64 false (M / 2 ^ 52) (M % 2 ^ 52)
plain M h = ap (of_bits binary64) (same M) ∙ as_fields false M h
  where
    same : (M : ℕ) → M ≡ 0 + M
    same M = omega arith

with_sign : (s : Bool) (M : ℕ) → M < 2 ^ 63 → of_bits binary64 (cond s (2 ^ 63) 0 + M) ≡ cond s (neg (of_bits binary64 M)) (of_bits binary64 M)
with_sign true M h = as_fields true M h ∙ fields_neg binary64 (M / 2 ^ 52) (M % 2 ^ 52) ∙ ap neg (sym (plain M h))
with_sign false M h = as_fields false M h ∙ sym (plain M h)

-- v is its size with its sign
pub split : (v : Float) → T (fits binary64 v) → v ≡ cond (leb (2 ^ 63) (to_bits binary64 v)) (neg (of_bits binary64 (to_bits binary64 v % 2 ^ 63))) (of_bits binary64 (to_bits binary64 v % 2 ^ 63))
split v f = sym (sign_magnitude v f) ∙ with_sign (leb (2 ^ 63) (to_bits binary64 v)) (to_bits binary64 v % 2 ^ 63) (below (to_bits binary64 v))
  where
    below : (b : ℕ) → b % 2 ^ 63 < 2 ^ 63
    below b = omega arith

-- ---- what is narrowed fits, and is a number where what it is narrowed from is one
pub narrow_fits : (x : Float) → T (fits binary32 (narrow_of x))
unfolding narrow_of fits
narrow_fits nan = tt
narrow_fits (inf s) = tt
narrow_fits (fin s m e) = round-fits binary32 s (m * up e) (down e)

units_number : (f : Format) (s : Bool) (q k : ℕ) → T (not (is_nan (units f s q k)))
unfolding units is_nan
units_number f s q k = go (ltb (q * 2 ^ k) (2 ^ (low f + suc (emax f)))) q
  where
    go : (b : Bool) (q : ℕ) → T (not (is_nan (cond b (odd (suc (prec f)) s q k (low f)) (inf s))))
    go true zero = unfold odd in tt
    go true (suc q) = unfold odd in tt
    go false q = tt

pub narrow_number : (x : Float) → T (not (is_nan x)) → T (not (is_nan (narrow_of x)))
unfolding narrow_of is_nan
narrow_number nan t = t
narrow_number (inf s) t = tt
narrow_number (fin s m e) t = subst (λ (y : Float). T (not (is_nan y))) (sym (round_is binary32 s (m * up e) (down e))) (units_number binary32 s _ _)

pub signed_number : (s : Bool) (z : Float) → T (not (is_nan z)) → T (not (is_nan (cond s (neg z) z)))
unfolding is_nan neg
signed_number true nan t = t
signed_number true (inf s) t = tt
signed_number true (fin s m e) t = tt
signed_number false z t = t
