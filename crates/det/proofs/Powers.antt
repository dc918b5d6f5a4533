-- What `ldexp2` asks of k in its two ways of making a pattern. Assumes nothing.
use mathlib.Core.Path.{◌≡◌, refl, sym, ap, ◌∙◌, subst}
use mathlib.Core.Bool.{true, false}
use Prim.Native.Nat.{ℕ, suc, ◌+◌, ◌-◌, ◌*◌, ◌%◌, ◌^◌, ◌<◌, ◌≤◌}
use native.Mathlib.Nat.{lt_trans, mod-eq_of_lt}
use native.Mathlib.Omega.{arith}
use lib.Dec.{T}
use lib.Pow.{pow-lt}
use lib.IntN.{ℤ, pos, negsuc, nat_abs, ◌+ℤ◌, ◌-ℤ◌}
use lib.Signed.{lt_z, le_z, non_neg, mag}
use borrow.Author.Tests.{leb-true, ltb-true, ltb-false, le-ltb}
use mir.Syntax.{w64}
use mir.Val.{Fits, SFits, to_z, of_z}
use Rattle.float.proofs.Signed.{pos_fits, pos_back, pos_cast}

-- k + j is n, which is below `over`
pub record Lifted (k : ℤ) (j over : ℕ) : Type 0 where
  pub n : ℕ
  pub is : k +ℤ pos j ≡ pos n
  pub below : n < over

lift_neg : (m j over : ℕ) → m < j → j - suc m < over → Lifted (negsuc m) j over
lift_neg m j over h b = record { n = j - suc m; is = rw (le-ltb j (suc m) h); below = b }

-- k from -1074 to -1023: the digit's place
pub subnormal : (k : ℤ) → lt_z k (negsuc 1021) ≡ true → lt_z k (negsuc 1073) ≡ false → Lifted k 1074 52
subnormal (pos n) t l = absurd (subst T (sym t) tt)
subnormal (negsuc m) t l =
    let a : 1021 < m = ltb-true 1021 m t in
    let b : m ≤ 1073 = ltb-false 1073 m l in
    lift_neg m 1074 52 (omega arith) (omega arith)

-- k from -1022 to 1023: the field of the exponent
pub normal : (k : ℤ) → lt_z (pos 1023) k ≡ false → lt_z k (negsuc 1021) ≡ false → Lifted k 1023 2047
normal (pos n) t l = let a : n ≤ 1023 = ltb-false 1023 n t in record { n = n + 1023; is = refl; below = omega arith }
normal (negsuc m) t l = let a : m ≤ 1021 = ltb-false 1021 m l in lift_neg m 1023 2047 (omega arith) (omega arith)

-- from some j + 1 on there is one less
pub one_less : (j : ℕ) (k : ℤ) → le_z (pos (suc j)) k ≡ true → mag k < 2 ^ 63 → mag (k -ℤ pos 1) < 2 ^ 63
one_less j (pos n) t h = let a : suc j ≤ n = leb-true (suc j) n t in rw (le-ltb n 1 (omega arith)) (omega arith)
one_less j (negsuc m) t h = absurd (subst T (sym t) tt)

module _ {k : ℤ} {j over : ℕ} (L : Lifted k j over) (small : over < 2 ^ 63) where
  room : L.n < 2 ^ 63
  room = lt_trans L.below small

  -- the sum fits an i64, and a u64 after that
  pub sum_fits : SFits w64 (k +ℤ pos j)
  sum_fits = pos_fits (k +ℤ pos j) L.n L.is room

  pub sum_cast : T (non_neg (to_z w64 (of_z w64 (k +ℤ pos j)))) × Fits w64 (nat_abs (to_z w64 (of_z w64 (k +ℤ pos j))))
  sum_cast = pos_cast (k +ℤ pos j) L.n L.is room

  -- the u64 is the sum's magnitude
  pub sum_is : nat_abs (to_z w64 (of_z w64 (k +ℤ pos j))) ≡ nat_abs (k +ℤ pos j)
  sum_is = ap nat_abs (pos_back (k +ℤ pos j) L.n L.is room ∙ sym L.is)

  pub sum_below : nat_abs (to_z w64 (of_z w64 (k +ℤ pos j))) < over
  sum_below = subst (λ (z : ℤ). nat_abs z < over) (sym (pos_back (k +ℤ pos j) L.n L.is room)) L.below

-- a field below 2047 above 52 digits
pub shifted : (n : ℕ) → n < 2047 → n * 2 ^ 52 % 2 ^ 64 ≡ n * 2 ^ 52
shifted n h = mod-eq_of_lt (omega arith)

pub shifted_low : (n : ℕ) → n < 2047 → n * 2 ^ 52 % 2 ^ 64 % 2 ^ 63 ≤ 0x7ff0_0000_0000_0000
shifted_low n h = omega arith

-- one digit at a place below 52
pub digit_low : (n : ℕ) → n < 52 → 1 * 2 ^ n % 2 ^ 64 % 2 ^ 63 ≤ 0x7ff0_0000_0000_0000
digit_low n h = let d : 2 ^ n < 2 ^ 52 = pow-lt {j = 52} h in omega arith
