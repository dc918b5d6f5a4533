-- The quarter that the comparisons pick is the definition's, where the count is 0. Assumes nothing.
use mathlib.Core.Path.{◌≡◌, refl, ap, ◌∙◌, subst}
use mathlib.Core.Bool.{Bool, true, false, cond}
use Prim.Native.Nat.{ℕ, zero, suc, ◌≤◌, ◌<◌}
use native.Mathlib.Omega.{arith}
use lib.Dec.{lit<}
use lib.IntN.{pos, negsuc}
use lib.Ieee.{Float, of_bits, neg, lt, eq, mul, add, sub, of_int, round, size, units, odd}
use Rattle.ieee.specs.Binary64.{◌⊞◌, ◌⊟◌, ◌⊠◌, ◌⧄◌}
use Rattle.ieee.specs.Whole.{exactly}
use Rattle.ieee.specs.Numbers64.{d0, d0·5, d1, d2}
use Rattle.ieee.proofs.Between.{Near, near, near_mirrored, near_signed}
use Rattle.laws.proofs.If.{if_true, if_false}
use Rattle.trig.specs.Trig.{FRAC·PI·2, rem_euclid4, quadrant, sin_reduced}
use Rattle.trig.proofs.Quarters.{quarter}
use Rattle.sin_block.specs.Nearest.{d1·5, d2·5, magnitude, nearest_above, nearest_of}
use Rattle.sin_block.specs.Quarter.{poly_at, sine_at}

-- the sign and the size of the whole number nearest to t
data Turned (t : Float) : Type 0 where
  turned : (s : Bool) (k : ℕ) → Near t s k → k ≤ 2 → exactly s k 0 ≡ nearest_of t → Turned t

module _ (t : Float) where
  size_above : lt d0 t ≡ true → t ≡ magnitude t
  unfolding magnitude
  size_above s = if_true _ s refl

  size_below : lt d0 t ≡ false → neg t ≡ magnitude t
  unfolding magnitude
  size_below s = if_false _ s refl

  ahead : (n : Float) → lt d0 t ≡ true → n ≡ nearest_above t → n ≡ nearest_of t
  unfolding nearest_of
  ahead n s e = if_true _ s (e ∙ ap nearest_above (size_above s))

  behind : (n : Float) → lt d0 t ≡ false → n ≡ neg (nearest_above (neg t)) → n ≡ nearest_of t
  unfolding nearest_of
  behind n s e = if_false _ s (e ∙ ap (λ (x : Float). neg (nearest_above x)) (size_below s))

  above : lt d0 t ≡ true → lt t d2·5 ≡ true → (b c : Bool) → lt t d0·5 ≡ b → lt t d1·5 ≡ c → Turned t
  unfolding nearest_above of_bits size odd
  above s h true c e g = turned false 0 (near 0 t s e) (omega arith) (ahead _ s (if_true _ e refl))
  above s h false true e g = turned false 1 (near 1 t e g) (omega arith) (ahead _ s (if_false _ e (if_true _ g refl)))
  above s h false false e g = turned false 2 (near 2 t g h) (omega arith) (ahead _ s (if_false _ e (if_false _ g refl)))

  below : lt d0 t ≡ false → lt d0 (neg t) ≡ true → lt (neg t) d2·5 ≡ true → (b c : Bool) → lt (neg t) d0·5 ≡ b → lt (neg t) d1·5 ≡ c → Turned t
  unfolding nearest_above of_bits size odd neg
  below s p h true c e g = turned true 0 (near_mirrored 0 t p e) (omega arith) (behind _ s (ap neg (zeroth e)))
    where
      zeroth : lt (neg t) d0·5 ≡ true → d0 ≡ nearest_above (neg t)
      zeroth e = if_true _ e refl
  below s p h false true e g = turned true 1 (near_mirrored 1 t e g) (omega arith) (behind _ s (ap neg (first e g)))
    where
      first : lt (neg t) d0·5 ≡ false → lt (neg t) d1·5 ≡ true → d1 ≡ nearest_above (neg t)
      first e g = if_false _ e (if_true _ g refl)
  below s p h false false e g = turned true 2 (near_mirrored 2 t g h) (omega arith) (behind _ s (ap neg (second e g)))
    where
      second : lt (neg t) d0·5 ≡ false → lt (neg t) d1·5 ≡ false → d2 ≡ nearest_above (neg t)
      second e g = if_false _ e (if_false _ g refl)

  -- as the tests have it
  turned_by : (b : Bool) → lt d0 t ≡ b → lt d0 (magnitude t) ≡ true → lt (magnitude t) d2·5 ≡ true → Turned t
  turned_by true s p q = above s (ap (λ (x : Float). lt x d2·5) (size_above s) ∙ q) (lt t d0·5) (lt t d1·5) refl refl
  turned_by false s p q = below s (ap (lt d0) (size_below s) ∙ p) (ap (λ (x : Float). lt x d2·5) (size_below s) ∙ q) (lt (neg t) d0·5) (lt (neg t) d1·5) refl refl

  is_turned : lt d0 (magnitude t) ≡ true → lt (magnitude t) d2·5 ≡ true → Turned t
  is_turned p q = turned_by (lt d0 t) refl p q

-- ---- the five quarters
sine_0 : (a : Float) → sine_at d0 a ≡ quadrant 0 a
unfolding sine_at poly_at quadrant lt eq mul sub add of_bits round size units odd
sine_0 a = refl

sine_1 : (a : Float) → sine_at d1 a ≡ quadrant 1 a
unfolding sine_at poly_at quadrant lt eq mul sub add of_bits round size units odd
sine_1 a = refl

sine_2 : (a : Float) → sine_at d2 a ≡ quadrant 2 a
unfolding sine_at poly_at quadrant lt eq mul sub add of_bits round size units odd
sine_2 a = refl

sine_3 : (a : Float) → sine_at (neg d1) a ≡ quadrant 3 a
unfolding sine_at poly_at quadrant lt eq mul sub add neg of_bits round size units odd
sine_3 a = refl

sine_4 : (a : Float) → sine_at (neg d2) a ≡ quadrant 2 a
unfolding sine_at poly_at quadrant lt eq mul sub add neg of_bits round size units odd
sine_4 a = refl

module _ (r : Float) where
  abbrev t : Float
  t = r ⧄ FRAC·PI·2

  abbrev Right : Float → Type 0
  Right q = sine_at q (r ⊟ q ⊠ FRAC·PI·2) ≡ sin_reduced r

  at_0 : (s : Bool) → Near t s 0 → Right d0
  unfolding of_bits rem_euclid4 of_int round size units odd
  at_0 true n = sine_0 (r ⊟ d0 ⊠ FRAC·PI·2) ∙ quarter r (pos 0) 0 d0 (near_signed n 63 (lit< tt)) refl refl
  at_0 false n = sine_0 (r ⊟ d0 ⊠ FRAC·PI·2) ∙ quarter r (pos 0) 0 d0 (near_signed n 63 (lit< tt)) refl refl

  at_1 : (s : Bool) → Near t s 1 → Right (cond s (neg d1) d1)
  unfolding of_bits neg rem_euclid4 of_int round size units odd
  at_1 true n = sine_3 (r ⊟ neg d1 ⊠ FRAC·PI·2) ∙ quarter r (negsuc 0) 3 (neg d1) (near_signed n 63 (lit< tt)) refl refl
  at_1 false n = sine_1 (r ⊟ d1 ⊠ FRAC·PI·2) ∙ quarter r (pos 1) 1 d1 (near_signed n 63 (lit< tt)) refl refl

  at_2 : (s : Bool) → Near t s 2 → Right (cond s (neg d2) d2)
  unfolding of_bits neg rem_euclid4 of_int round size units odd
  at_2 true n = sine_4 (r ⊟ neg d2 ⊠ FRAC·PI·2) ∙ quarter r (negsuc 1) 2 (neg d2) (near_signed n 63 (lit< tt)) refl refl
  at_2 false n = sine_2 (r ⊟ d2 ⊠ FRAC·PI·2) ∙ quarter r (pos 2) 2 d2 (near_signed n 63 (lit< tt)) refl refl

  at : (s : Bool) (k : ℕ) → Near t s k → k ≤ 2 → Right (exactly s k 0 ⊞ d0)
  unfolding add neg of_bits round size units odd
  at true zero n h = at_0 true n
  at false zero n h = at_0 false n
  at true (suc zero) n h = at_1 true n
  at false (suc zero) n h = at_1 false n
  at true (suc (suc zero)) n h = at_2 true n
  at false (suc (suc zero)) n h = at_2 false n
  at s (suc (suc (suc k))) n h = absurd (none k h)
    where
      none : (k : ℕ) → suc (suc (suc k)) ≤ 2 → ⊥
      none k h = omega arith

  by : Turned t → Right (nearest_of t ⊞ d0)
  by (turned s k n h e) = subst (λ (q : Float). Right (q ⊞ d0)) e (at s k n h)

  pub quartered : lt d0 (magnitude t) ≡ true → lt (magnitude t) d2·5 ≡ true → Right (nearest_of t ⊞ d0)
  quartered p q = by (is_turned t p q)
