-- A MIDI number as an i32: one below 0 names no drum, and another is a u32. Assumes nothing.
use mathlib.Core.Path.{◌≡◌, refl, ap, ◌∙◌, subst}
use Prim.Native.Nat.{ℕ, ◌^◌, ◌<◌}
use native.Mathlib.Omega.{arith}
use mathlib.Core.Bool.{true, false}
use lib.Dec.{T}
use lib.IntN.{ℤ, pos, negsuc, nat_abs}
use lib.Signed.{mag, non_neg, lt_z}
use borrow.Author.Tests.{ltb-true}
use mir.Syntax.{w32}
use mir.Val.{Fits, to_z, of_z}
use mir.Facts.{to_z-of_z}
use Rattle.drum.specs.Drums.{drum_at, drum_of}
use Rattle.drum.specs.declared.Drum.{Drum}
use Rattle.drum.specs.declared.Drum.TheVariants.{Unmapped}

below : (z : ℤ) → lt_z z (pos 0) ≡ true → Unmapped ≡ drum_of z
unfolding drum_of
below (pos n) e = absurd (no n (ltb-true n 0 e))
  where
    no : (n : ℕ) → n < 0 → ⊥
    no n l = omega arith
below (negsuc n) e = refl

above : (z : ℤ) → lt_z z (pos 0) ≡ false → mag z < 2 ^ 31 → T (non_neg z) × Fits w32 (nat_abs z)
above (pos n) e h = (tt, record { fits = omega arith })
above (negsuc n) e h = absurd (subst T e tt)

at : (z : ℤ) → T (non_neg z) → drum_at (nat_abs z) ≡ drum_of z
unfolding drum_of
at (pos n) t = refl
at (negsuc n) t = absurd t

-- as the machine reads it back from its bits
module _ (z : ℤ) (h : mag z < 2 ^ 31) where
  back : to_z w32 (of_z w32 z) ≡ z
  back = to_z-of_z {w = w32} (record { sfits = h })

  pub negative : lt_z (to_z w32 (of_z w32 z)) (pos 0) ≡ true → Unmapped ≡ drum_of z
  negative e = below z (rw back at e)

  pub cast : lt_z (to_z w32 (of_z w32 z)) (pos 0) ≡ false → T (non_neg (to_z w32 (of_z w32 z))) × Fits w32 (nat_abs (to_z w32 (of_z w32 z)))
  cast e = rw back (above z (rw back at e) h)

  pub positive : {d : Drum} → lt_z (to_z w32 (of_z w32 z)) (pos 0) ≡ false → d ≡ drum_at (nat_abs (to_z w32 (of_z w32 z))) → d ≡ drum_of z
  positive e g = g ∙ ap (λ (y : ℤ). drum_at (nat_abs y)) back ∙ at z (above z (rw back at e) h).0
