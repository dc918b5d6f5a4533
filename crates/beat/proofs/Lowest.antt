-- A fraction divided by the greatest common divisor of its terms is the same fraction in lowest terms. Assumes nothing.
use Rattle.std.proofs.Common.{◌≡◌, ℕ, zero, suc, ◌*◌, ◌/◌, ◌<◌, ℤ, pos, negsuc, ◌*ℤ◌, neg_ℤ, nat_abs, sym, refl, ap, ◌∙◌, subst, mul_assoc, mul_comm, one-mul, zero-mul, div-le_self, arith}
use Prim.Native.Nat.{◌∣◌}
use native.Mathlib.Nat.{div-mul_cancel, mul-dvd-mul_right, dvd_of_mul-dvd-mul_right, eq-one_of_dvd-one, pos_of_dvd_of_pos}
use lib.Signed.{quot_z}
use Rattle.beat.specs.Gcd.{Gcd}
use Rattle.beat.specs.Beat.{Reduced}
use Rattle.beat.specs.declared.beat.Beat.{Beat}

-- the sign of a product
neg_times : (q d : ℕ) → neg_ℤ (pos q) *ℤ pos d ≡ neg_ℤ (pos (q * d))
neg_times zero d = let z : 0 * d ≡ 0 = zero-mul d in rw z
neg_times (suc q) d = refl

pub size_neg : (q : ℕ) → nat_abs (neg_ℤ (pos q)) ≡ q
size_neg zero = refl
size_neg (suc q) = refl

size_quotient : (z : ℤ) (g : ℕ) → nat_abs (quot_z z (pos g)) ≡ nat_abs z / g
size_quotient (pos n) g = refl
size_quotient (negsuc n) g = size_neg (suc n / g)

-- a = q * g and d = r * g give q * d = a * r
crossed : (a d q r g : ℕ) → q * g ≡ a → r * g ≡ d → q * d ≡ a * r
crossed a d q r g e f =
    ap (λ (x : ℕ). q * x) (sym f ∙ mul_comm r g) ∙ sym (mul_assoc q g r) ∙ ap (λ (x : ℕ). x * r) e

same_by : (z : ℤ) (den g : ℕ) → g ∣ nat_abs z → g ∣ den → quot_z z (pos g) *ℤ pos den ≡ z *ℤ pos (den / g)
same_by (pos n) den g h k = ap pos (crossed n den (n / g) (den / g) g (div-mul_cancel g h) (div-mul_cancel g k))
same_by (negsuc n) den g h k =
    neg_times (suc n / g) den ∙ ap (λ (x : ℕ). neg_ℤ (pos x)) (crossed (suc n) den (suc n / g) (den / g) g (div-mul_cancel g h) (div-mul_cancel g k))

above_0 : (q g d : ℕ) → q * g ≡ d → 0 < d → 0 < q
above_0 zero g d e h = let z : 0 * g ≡ 0 = zero-mul g in absurd (omega (arith, e, z))
above_0 (suc q) g d e h = omega arith

module _ (z : ℤ) (den g : ℕ) (h : Gcd (nat_abs z) den g) (p : 0 < den) where
  -- d * g divides both, and so g
  only_1 : (d : ℕ) → d ∣ nat_abs z / g → d ∣ den / g → d ≡ 1
  only_1 d a b =
      let l : d * g ∣ nat_abs z = subst (λ (x : ℕ). d * g ∣ x) (div-mul_cancel g h.left) (mul-dvd-mul_right d a g) in
      let r : d * g ∣ den = subst (λ (x : ℕ). d * g ∣ x) (div-mul_cancel g h.right) (mul-dvd-mul_right d b g) in
      let m : d * g ∣ 1 * g = subst (λ (x : ℕ). d * g ∣ x) (sym (one-mul g)) (h.greatest (d * g) l r) in
      eq-one_of_dvd-one (dvd_of_mul-dvd-mul_right d (pos_of_dvd_of_pos h.right p) m)

  pub reduced_by : (b : Beat) → b.num ≡ quot_z z (pos g) → b.den ≡ den / g → Reduced z den b
  reduced_by b e f = record {
    same = rw (e, f) (same_by z den g h.left h.right);
    positive = above_0 b.den g den (ap (λ (x : ℕ). x * g) f ∙ div-mul_cancel g h.right) p;
    num_most = rw (e, size_quotient z g) (div-le_self (nat_abs z) g);
    den_most = rw f (div-le_self den g);
    lowest = λ d k l. only_1 d (subst (λ (x : ℕ). d ∣ x) (ap nat_abs e ∙ size_quotient z g) k) (subst (λ (x : ℕ). d ∣ x) f l);
  }
