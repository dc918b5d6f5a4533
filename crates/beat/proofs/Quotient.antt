-- Quotients and products of signed numbers fit 64 bits. Assumes nothing.
use Rattle.std.proofs.Common.{◌≡◌, ℕ, zero, suc, ◌*◌, ◌/◌, ◌<◌, ◌≤◌, ℤ, pos, negsuc, ◌*ℤ◌, neg_ℤ, nat_abs, mul-le-mul, div-le_self, arith, to_z-of_z, w64}
use Rattle.std.proofs.Common.{SFits, to_z, of_z}
use lib.Signed.{mag, quot_z}
use mir.Facts.{to_z_pos}

-- the range of a negative number
pub mag_neg : (k : ℕ) → mag (neg_ℤ (pos k)) ≤ k
mag_neg zero = omega arith
mag_neg (suc k) = omega arith

pub quot_fits : (z : ℤ) (g : ℕ) → nat_abs z ≤ 1000000000 → SFits w64 (quot_z z (pos g))
quot_fits (pos n) g h = record { sfits = omega (arith, div-le_self n g) }
quot_fits (negsuc n) g h = record { sfits = omega (arith, div-le_self (suc n) g, mag_neg (suc n / g)) }

-- ---- a numerator that 31 passes, times a denominator
product_fits : (z : ℤ) (d : ℕ) → nat_abs z ≤ 1000000000 → d < 4294967296 → SFits w64 (z *ℤ pos d)
product_fits (pos n) d h k = let g : d ≤ 4294967296 = omega arith in record { sfits = let m : n * d ≤ 1000000000 * 4294967296 = mul-le-mul h g in omega arith }
product_fits (negsuc n) d h k =
    let g : d ≤ 4294967296 = omega arith in
    record { sfits = let m : suc n * d ≤ 1000000000 * 4294967296 = mul-le-mul h g in omega (arith, mag_neg (suc n * d)) }

module _ (z : ℤ) (d : ℕ) (s : SFits w64 z) (h : nat_abs z ≤ 1000000000) (k : d < 4294967296) where
  -- the machine's product is the product
  pub cross : to_z w64 (of_z w64 (to_z w64 (of_z w64 z) *ℤ to_z w64 d)) ≡ z *ℤ pos d
  cross = rw (to_z-of_z s, to_z_pos w64 {n = d} (omega arith)) (to_z-of_z (product_fits z d h k))

  pub cross_fits : SFits w64 (to_z w64 (of_z w64 z) *ℤ to_z w64 d)
  cross_fits = rw (to_z-of_z s, to_z_pos w64 {n = d} (omega arith)) (product_fits z d h k)
