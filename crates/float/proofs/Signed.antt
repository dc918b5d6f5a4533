-- An i64 as the machine reads it back from its bits. Assumes nothing.
use Rattle.std.proofs.Common.{◌≡◌, ℕ, ◌-◌, ◌^◌, ◌<◌, T, ℤ, pos, nat_abs, sym, ap, ◌∙◌, subst, arith, to_z-of_z, w64, Fits, SFits, to_z, of_z}
use lib.Signed.{mag, non_neg}

pub back : (z : ℤ) → mag z < 2 ^ 63 → to_z w64 (of_z w64 z) ≡ z
back z h = to_z-of_z {w = w64} (record { sfits = h })

pub in_range : (z : ℤ) → mag z < 2 ^ 63 → mag (to_z w64 (of_z w64 z)) < 2 ^ 63
in_range z h = subst (λ (y : ℤ). mag y < 2 ^ 63) (sym (back z h)) h

-- what is not negative is a u64
pub cast : (z : ℤ) (n : ℕ) → z ≡ pos n → n < 2 ^ 63 → T (non_neg z) × Fits w64 (nat_abs z)
cast z n e h = subst (λ (y : ℤ). T (non_neg y) × Fits w64 (nat_abs y)) (sym e) (tt, record { fits = omega arith })

-- y is n: it fits an i64, and it is n when it is read back
module _ (y : ℤ) (n : ℕ) (is : y ≡ pos n) (h : n < 2 ^ 63) where
  pub pos_fits : SFits w64 y
  pos_fits = subst (SFits w64) (sym is) (record { sfits = h })

  pub pos_back : to_z w64 (of_z w64 y) ≡ pos n
  pos_back = ap (λ (z : ℤ). to_z w64 (of_z w64 z)) is ∙ back (pos n) h

  pub pos_cast : T (non_neg (to_z w64 (of_z w64 y))) × Fits w64 (nat_abs (to_z w64 (of_z w64 y)))
  pos_cast = cast (to_z w64 (of_z w64 y)) n pos_back h
