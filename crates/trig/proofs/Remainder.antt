-- The remainder by 4 that `sin` takes of a number of quarter turns. Assumes nothing.
use Rattle.std.proofs.Common.{◌≡◌, suc, ◌-◌, ◌%◌, true, false, T, ℤ, pos, negsuc, ◌-ℤ◌, nat_abs, sym, refl, ap, subst, arith, le-ltb, leb-false}
use lib.Signed.{mag, le_z}
use Rattle.trig.specs.Trig.{rem_euclid4}

-- the two tests of `rem_euclid_4`: z is its magnitude, or -1 - z is
pub plain : (z : ℤ) → le_z (pos 0) z ≡ true → z ≡ pos (mag z)
plain (pos n) t = refl
plain (negsuc m) t = absurd (subst T (sym t) tt)

pub mirrored : (z : ℤ) → le_z (pos 0) z ≡ false → negsuc 0 -ℤ z ≡ pos (mag z)
mirrored (pos n) t = absurd (omega (arith, leb-false 0 n t))
mirrored (negsuc m) t = rw (le-ltb (suc m) 1 (omega arith)) (ap pos (omega arith))

pub rem_plain : (z : ℤ) → le_z (pos 0) z ≡ true → nat_abs z % 4 ≡ rem_euclid4 z
unfolding rem_euclid4
rem_plain (pos n) t = refl
rem_plain (negsuc m) t = absurd (subst T (sym t) tt)

pub rem_mirrored : (z : ℤ) → le_z (pos 0) z ≡ false → 3 - mag z % 4 ≡ rem_euclid4 z
unfolding rem_euclid4
rem_mirrored (pos n) t = absurd (omega (arith, leb-false 0 n t))
rem_mirrored (negsuc m) t = refl
