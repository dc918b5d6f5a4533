-- What equals a number other than zero is that number, of the same bits. Use where a test by `==` picks a value that is already there. Assumes nothing.
use Prim.Native.Nat.{ℕ, suc, ◌*◌, ◌<◌}
use mathlib.Core.Path.{◌≡◌, refl, sym, subst}
use native.Mathlib.Nat.{mul-pos, lt_irrefl, zero-lt-suc}
use mathlib.Core.Bool.{Bool, true, false, ◌&&◌, ◌||◌, beq}
use lib.IntN.{ℤ}
use lib.Dec.{T, eqb, eqb→eq}
use lib.Ieee.{Float, nan, inf, fin, Format, binary32, up, down, eq, level, fits, of_bits}
use lib.Ieee.Fits.{up_pos, down_pos, and_l}
use Rattle.ieee.proofs.Value.{value_unique}
use Rattle.dsl.specs.Drawbars.{c6}

and_right : (a b : Bool) → T (a && b) → T b
and_right true b t = t
and_right false b t = absurd t

-- a test or one that fails
or_left : (a b : Bool) → (T b → ⊥) → T (a || b) → T a
or_left true b n t = tt
or_left false b n t = absurd (n t)

same_sign : (s t : Bool) → T (beq s t) → s ≡ t
same_sign true true h = refl
same_sign true false h = absurd h
same_sign false true h = absurd h
same_sign false false h = refl

module _ (f g : Format) (s : Bool) (n : ℕ) (d : ℤ) (held : T (fits g (fin s (suc n) d))) where
  pub equal_same : (x : Float) → T (fits f x) → T (eq x (fin s (suc n) d)) → x ≡ fin s (suc n) d
  unfolding eq level
  equal_same nan p h = absurd h
  equal_same (inf t) p h = absurd h
  equal_same (fin t m e) p h =
      let a = m * up e * down d in
      let b = suc n * up d * down e in
      let equal : a ≡ b = eqb→eq a b (and_l (eqb a b) (beq t s || eqb a 0) h) in
      let some : 0 < a = subst (λ (x : ℕ). 0 < x) (sym equal) (mul-pos (mul-pos (zero-lt-suc n) (up_pos d)) (down_pos e)) in
      let none : T (eqb a 0) → ⊥ = λ z. lt_irrefl 0 (subst (λ (x : ℕ). 0 < x) (eqb→eq a 0 z) some) in
      let sign = same_sign t s (or_left (beq t s) (eqb a 0) none (and_right (eqb a b) (beq t s || eqb a 0) h)) in
      value_unique f g (fin t m e) (fin s (suc n) d) s (suc n * up d) (down d) (down_pos d) p held (sign, equal) (refl, refl)

pub is_six : (x : Float) → T (fits binary32 x) → eq x c6 ≡ true → x ≡ c6
unfolding of_bits fits
is_six x p h = equal_same binary32 binary32 false _ _ tt x p (subst T (sym h) tt)
