-- The quarter that the sum gives is the definition's, where the count is 0. Assumes nothing.
use mathlib.Core.Path.{◌≡◌, refl, ◌∙◌, subst}
use mathlib.Core.Bool.{Bool, true, false, cond, ◌&&◌}
use Prim.Native.Nat.{ℕ, zero, suc, ◌+◌, ◌*◌, ◌<◌}
use native.Mathlib.Nat.{zero-lt-suc, div-lt_iff_lt-mul, mul-pos}
use native.Mathlib.Omega.{arith}
use lib.Dec.{T, lit<, ltb}
use lib.IntN.{pos, negsuc}
use lib.Ieee.{Float, binary64, of_bits, neg, lt, eq, mul, add, sub, of_int, round, size, units, odd, fits, up, down}
use lib.Ieee.Fits.{sub-fits, down_pos}
use lib.Ieee.Exact.{HasValue}
use Rattle.ieee.specs.Binary64.{◌⊟◌, ◌⊠◌, ◌⧄◌}
use Rattle.ieee.specs.Numbers64.{d0, d1, d2}
use Rattle.ieee.proofs.Value.{value_unique}
use Rattle.ieee.proofs.Bounded.{exact_dyadic}
use Rattle.ieee.proofs.Between.{Near, near_signed}
use Rattle.trig.specs.Trig.{FRAC·PI·2, rem_euclid4, quadrant, sin_reduced}
use Rattle.trig.proofs.Quarters.{quarter}
use Rattle.sin_block.specs.OneSum.{d6·25, nearest_by_one_sum, SureBelow}
use Rattle.sin_block.specs.Quarter.{poly_at, sine_at}
use Rattle.sin_block.proofs.SureBelow.{Settled, settled}

-- ---- t is below 5 / 2
limit : HasValue d6·25 false (5 * 5) (2 * 2)
unfolding of_bits size odd
limit = (refl, refl)

turned : (t : Float) → SureBelow d6·25 t → Settled t 5 2
turned t S = settled d6·25 5 2 (zero-lt-suc 4) (zero-lt-suc 1) (exact_dyadic binary64 25 2 (lit< tt) (omega arith)) limit (omega arith) t S

few : {t : Float} (z : Settled t 5 2) → z.k < 3
few z = subst (λ (n : ℕ). n < 3) z.near.size ((div-lt_iff_lt-mul (mul-pos (down_pos z.near.e) (zero-lt-suc 1))).1 (go (z.near.m * up z.near.e) (down z.near.e) z.below))
  where
    go : (A C : ℕ) → A * 2 < 5 * C → A * 2 + C < 3 * (C * 2)
    go A C h = omega arith

-- ---- the five quarters
sine_0 : (a : Float) → sine_at d0 a ≡ quadrant 0 a
unfolding sine_at poly_at quadrant lt eq mul sub add of_bits round size units odd
sine_0 a = refl

sine_1 : (a : Float) → sine_at d1 a ≡ quadrant 1 a
unfolding sine_at poly_at quadrant lt eq mul sub add of_bits round size units odd
sine_1 a = refl

sine_2 : (a : Float) → sine_at d2 a ≡ quadrant 2 a
unfolding sine_at poly_at quadrant lt eq mul sub add of_bits round size units odd
sine_2 a = refl

sine_3 : (a : Float) → sine_at (neg d1) a ≡ quadrant 3 a
unfolding sine_at poly_at quadrant lt eq mul sub add neg of_bits round size units odd
sine_3 a = refl

sine_4 : (a : Float) → sine_at (neg d2) a ≡ quadrant 2 a
unfolding sine_at poly_at quadrant lt eq mul sub add neg of_bits round size units odd
sine_4 a = refl

module _ (r : Float) where
  abbrev t : Float
  t = r ⧄ FRAC·PI·2

  abbrev Right : Float → Type 0
  Right q = sine_at q (r ⊟ q ⊠ FRAC·PI·2) ≡ sin_reduced r

  at_0 : (s : Bool) → Near t s 0 → Right d0
  unfolding of_bits rem_euclid4 of_int round size units odd
  at_0 true n = sine_0 (r ⊟ d0 ⊠ FRAC·PI·2) ∙ quarter r (pos 0) 0 d0 (near_signed n 63 (lit< tt)) refl refl
  at_0 false n = sine_0 (r ⊟ d0 ⊠ FRAC·PI·2) ∙ quarter r (pos 0) 0 d0 (near_signed n 63 (lit< tt)) refl refl

  at_1 : (s : Bool) → Near t s 1 → Right (cond s (neg d1) d1)
  unfolding of_bits neg rem_euclid4 of_int round size units odd
  at_1 true n = sine_3 (r ⊟ neg d1 ⊠ FRAC·PI·2) ∙ quarter r (negsuc 0) 3 (neg d1) (near_signed n 63 (lit< tt)) refl refl
  at_1 false n = sine_1 (r ⊟ d1 ⊠ FRAC·PI·2) ∙ quarter r (pos 1) 1 d1 (near_signed n 63 (lit< tt)) refl refl

  at_2 : (s : Bool) → Near t s 2 → Right (cond s (neg d2) d2)
  unfolding of_bits neg rem_euclid4 of_int round size units odd
  at_2 true n = sine_4 (r ⊟ neg d2 ⊠ FRAC·PI·2) ∙ quarter r (negsuc 1) 2 (neg d2) (near_signed n 63 (lit< tt)) refl refl
  at_2 false n = sine_2 (r ⊟ d2 ⊠ FRAC·PI·2) ∙ quarter r (pos 2) 2 d2 (near_signed n 63 (lit< tt)) refl refl

  module _ (n : Float) (fit : T (fits binary64 n)) where
    same : (m : Float) (s : Bool) (k : ℕ) → T (fits binary64 m) → HasValue m s k 1 → HasValue n s k 1 → m ≡ n
    same m s k f v w = value_unique binary64 binary64 m n s k 1 (zero-lt-suc 0) f fit v w

    at : (s : Bool) (k : ℕ) → Near t s k → k < 3 → HasValue n (s && ltb 0 k) k 1 → Right n
    unfolding of_bits neg fits
    at true zero z h v = subst Right (same d0 false 0 tt (refl, refl) v) (at_0 true z)
    at false zero z h v = subst Right (same d0 false 0 tt (refl, refl) v) (at_0 false z)
    at true (suc zero) z h v = subst Right (same (neg d1) true 1 tt (refl, refl) v) (at_1 true z)
    at false (suc zero) z h v = subst Right (same d1 false 1 tt (refl, refl) v) (at_1 false z)
    at true (suc (suc zero)) z h v = subst Right (same (neg d2) true 2 tt (refl, refl) v) (at_2 true z)
    at false (suc (suc zero)) z h v = subst Right (same d2 false 2 tt (refl, refl) v) (at_2 false z)
    at s (suc (suc (suc k))) z h v = absurd (none k h)
      where
        none : (k : ℕ) → suc (suc (suc k)) < 3 → ⊥
        none k h = omega arith

  pub quartered : SureBelow d6·25 t → Right (nearest_by_one_sum t)
  quartered S = let z = turned t S in at (nearest_by_one_sum t) (unfold nearest_by_one_sum in sub-fits binary64 _ _) z.s z.k z.near (few z) z.value
