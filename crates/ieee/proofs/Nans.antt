-- What a test tells of a NaN, and which patterns are a NaN's. Assumes nothing.
use mathlib.Core.Path.{◌≡◌, refl, sym, ap, ◌∙◌, subst}
use Prim.Native.Nat.{ℕ, ◌*◌, ◌%◌, ◌≤◌, ◌<◌}
use mathlib.Core.Bool.{Bool, true, false, not, ◌&&◌, ◌||◌, beq}
use lib.Dec.{T, ltb, eqb, lt→ltb}
use borrow.Author.Tests.{eq-eqb}
use lib.Arith.{le→nltb}
use lib.Ieee.{Float, nan, inf, fin, Format, binary32, hid, ones, top, up, down, ne, eq, div, is_nan, nan_bits, of_bits}
use lib.Ieee.Bits.{nan_bits_above, nan_bits_is}
use lib.Ieee.Compare.{differs_from_itself}

-- what differs from itself is a NaN, and what does not is none
pub is_nan_lem : (x : Float) → ne x x ≡ true → x ≡ nan
is_nan_lem x e = differs_from_itself x (subst T (sym e) tt)

pub no_nan : (x : Float) → ne x x ≡ false → T (not (is_nan x))
unfolding ne is_nan
no_nan nan e = subst T e tt
no_nan (inf s) e = tt
no_nan (fin s m e') e = tt

-- the code's NaN
pub nan_made : div binary32 (of_bits binary32 0) (of_bits binary32 0) ≡ nan
unfolding of_bits div
nan_made = refl

-- without its sign a NaN's pattern is above the infinity's
pub plain_bits : (f : Format) (n : ℕ) → n % top f ≤ ones f * hid f → T (not (nan_bits f n))
plain_bits f n h = subst (λ (b : Bool). T (not b)) (sym (nan_bits_above f n)) (le→nltb (ones f * hid f) (n % top f) h)

pub nan_bits_lem : (f : Format) (n : ℕ) → ones f * hid f < n % top f → nan ≡ of_bits f n
nan_bits_lem f n h = sym (the_nan (of_bits f n) (subst T (nan_bits_above' ∙ nan_bits_is f n) (lt→ltb (ones f * hid f) (n % top f) h)))
  where
    nan_bits_above' : ltb (ones f * hid f) (n % top f) ≡ nan_bits f n
    nan_bits_above' = sym (nan_bits_above f n)

    the_nan : (x : Float) → T (is_nan x) → x ≡ nan
    the_nan nan t = refl
    the_nan (inf s) t = absurd (unfold is_nan in t)
    the_nan (fin s m e) t = absurd (unfold is_nan in t)

-- `x != x` is true of a NaN alone
same_sign : (s : Bool) → beq s s ≡ true
same_sign true = refl
same_sign false = refl

level_self : (s : Bool) (a : ℕ) → not (eqb a a && (beq s s || eqb a 0)) ≡ false
level_self s a = rw (eq-eqb a a refl, same_sign s)

pub ne_self : (x : Float) → ne x x ≡ is_nan x
unfolding ne eq is_nan
ne_self nan = refl
ne_self (inf s) = ap not (same_sign s)
ne_self (fin s m e) = level_self s (m * up e * down e)
