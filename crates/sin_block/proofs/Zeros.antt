-- Adding and taking off a zero. Assumes nothing.
use mathlib.Core.Path.{◌≡◌, refl, sym, ap, ◌∙◌, subst}
use mathlib.Core.Logic.{◌⊎◌, inl, inr}
use mathlib.Core.Bool.{Bool, true, false, cond}
use Prim.Native.Nat.{ℕ, zero, suc, ◌+◌, ◌-◌, ◌*◌, ◌^◌, ◌≤◌, ◌<◌, zero-le}
use native.Mathlib.Nat.{le_of_suc-le-suc, lt_of_lt_of_le, lt_of_not-le, not-le_of_lt, mul-one, mul_assoc, mul_comm, mul-pos, zero-lt-suc, mul-lt-mul_of_pos_right, lt_of_le_of_lt, le_of_eq}
use native.Mathlib.Omega.{arith}
use lib.IntN.{ℤ, pos, negsuc}
use lib.Dec.{T, ltb}
use borrow.Author.Tests.{lt-ltb, le-ltb}
use lib.Pow.{pow-add, pow_pos, pow-lt}
use lib.Ieee.{Float, nan, inf, fin, Format, binary64, emax, low, of_bits, up, down, round, sum, add, sub, neg, fits}
use lib.Ieee.Fits.{down_pos, up_pos, round-fits}
use lib.Ieee.Exact.{HasValue, round_exact}
use lib.Ieee.Back.{round_whole}
use Rattle.ieee.specs.Binary64.{◌⊞◌, ◌⊟◌}
use Rattle.ieee.specs.Numbers64.{d0}
use Rattle.ieee.proofs.Value.{value_unique, zero_exp}
use Rattle.ieee.proofs.Exactly.{round_value}
use Rattle.ieee.proofs.Units.{fits_parts}

pow_back : (i j : ℕ) → 2 ^ i ≤ 2 ^ j → i ≤ j
pow_back i j h = le_of_suc-le-suc (lt_of_not-le (λ (l : suc j ≤ i). not-le_of_lt (pow-lt l) h))

-- ---- a value of the format is rounded to itself
own_value : (f : Format) (s : Bool) (m : ℕ) (e : ℤ) → T (fits f (fin s m e)) → HasValue (round f s (m * up e) (down e)) s (m * up e) (down e)
own_value f s zero e t = subst (λ (e : ℤ). HasValue (round f s (zero * up e) (down e)) s (zero * up e) (down e)) (sym (zero_exp f s e t)) (round_whole f s 0 zero-le)
own_value f s (suc m) (pos k) t =
    let p = fits_parts f s m (pos k) t in
    round_exact f s (suc m * 2 ^ k) 1 (suc m) (k + low f) (zero-lt-suc 0) p.0
    (lt_of_le_of_lt (le_of_eq placed) (lt_of_lt_of_le (mul-lt-mul_of_pos_right p.2 (pow_pos (low f))) (le_of_eq top))) (sym placed ∙ sym (mul-one (suc m * 2 ^ (k + low f))))
  where
    placed : suc m * 2 ^ (k + low f) ≡ suc m * 2 ^ k * 2 ^ low f
    placed = ap (λ (n : ℕ). suc m * n) (pow-add 2 k (low f)) ∙ sym (mul_assoc (suc m) (2 ^ k) (2 ^ low f))

    top : 2 ^ suc (emax f) * 1 * 2 ^ low f ≡ 2 ^ (low f + suc (emax f))
    top = ap (λ (n : ℕ). n * 2 ^ low f) (mul-one (2 ^ suc (emax f))) ∙ mul_comm (2 ^ suc (emax f)) (2 ^ low f) ∙ sym (pow-add 2 (low f) (suc (emax f)))
own_value f s (suc m) (negsuc k) t =
    let p = fits_parts f s m (negsuc k) t in
    round_value f s (suc m) (suc k) p.0 (pow_back (suc k) (low f) p.1) (suc m * 1) (2 ^ suc k) (pow_pos (suc k)) (ap (λ (n : ℕ). n * 2 ^ suc k) (mul-one (suc m)))

pub round_own : (f : Format) (s : Bool) (m : ℕ) (e : ℤ) → T (fits f (fin s m e)) → round f s (m * up e) (down e) ≡ fin s m e
round_own f s m e t = value_unique f f (round f s (m * up e) (down e)) (fin s m e) s (m * up e) (down e) (down_pos e) (round-fits f s (m * up e) (down e)) t (own_value f s m e t) (refl, refl)

-- ---- x + 0 is x, but where x is -0
more : (s : Bool) (a c : ℕ) → round binary64 s (a * 1 + 0 * c) (c * 1) ≡ round binary64 s a c
more s a c = (λ i. round binary64 s (same a c i) (mul-one c i))
  where
    same : (a c : ℕ) → a * 1 + 0 * c ≡ a
    same a c = omega arith

less : (s : Bool) (a c : ℕ) (x : Float) → cond (ltb (a * 1) (0 * c)) x (round binary64 s (a * 1 - 0 * c) (c * 1)) ≡ round binary64 s a c
less s a c x = ap (λ (b : Bool). cond b x (round binary64 s (a * 1 - 0 * c) (c * 1))) (le-ltb (a * 1) (0 * c) (none a c)) ∙ (λ i. round binary64 s (same a c i) (mul-one c i))
  where
    none : (a c : ℕ) → 0 * c ≤ a * 1
    none a c = omega arith

    same : (a c : ℕ) → a * 1 - 0 * c ≡ a
    same a c = omega arith

pub sub_zero : (x : Float) → T (fits binary64 x) → x ⊟ d0 ≡ x
unfolding sub add sum neg of_bits
sub_zero nan t = refl
sub_zero (inf s) t = refl
sub_zero (fin true m e) t = more true (m * up e) (down e) ∙ round_own binary64 true m e t
sub_zero (fin false m e) t = less false (m * up e) (down e) _ ∙ round_own binary64 false m e t

pub add_zero : (x : Float) → T (fits binary64 x) → (x ⊞ d0 ≡ x) ⊎ (x ≡ neg d0)
unfolding add sum of_bits neg
add_zero nan t = inl refl
add_zero (inf s) t = inl refl
add_zero (fin true zero e) t = inr (ap (λ (e : ℤ). fin true zero e) (zero_exp binary64 true e t))
add_zero (fin true (suc m) e) t =
    inl ((λ i. cond (ltb (suc m * up e * 1) (0 * down e)) (round binary64 false (0 * down e - suc m * up e * 1) (down e * 1)) (round binary64 (minus i) (suc m * up e * 1 - 0 * down e) (down e * 1)))
    ∙ less true (suc m * up e) (down e) _ ∙ round_own binary64 true (suc m) e t)
  where
    above : (a c : ℕ) → 0 < a → 0 * c < a * 1
    above a c h = omega arith

    minus : ltb (0 * down e) (suc m * up e * 1) ≡ true
    minus = lt-ltb (0 * down e) (suc m * up e * 1) (above (suc m * up e) (down e) (mul-pos (zero-lt-suc m) (up_pos e)))
add_zero (fin false m e) t = inl (more false (m * up e) (down e) ∙ round_own binary64 false m e t)
