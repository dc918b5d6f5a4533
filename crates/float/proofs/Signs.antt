-- `whole` outside the small range and at either sign, and the absolute value, for both formats. Zero is `fin false 0 (pos 0)`, as the code's tests have it. Assumes nothing.
use Rattle.std.proofs.Common.{◌≡◌, ℕ, zero, suc, ◌-◌, ◌*◌, ◌^◌, ◌<◌, ◌≤◌, Bool, true, false, cond, not, T, eqb, ltb, ℤ, pos, negsuc, sym, refl, ap, ◌∙◌, subst, true≢false, le_trans}
use Rattle.std.proofs.Common.{le_of_eq, lt_of_le_of_lt, lt_irrefl, zero-lt-suc, mul-le-mul_left, mul-pos, one-mul, zero-mul, mul-one, arith, eqb→eq, lt→ltb, pow_pos, pow_mono, ltb-false}
use mathlib.Core.Bool.{false≢true}
use lib.Ieee.{Float, nan, inf, fin, Format, prec, up, down, size, odd, neg, lt, eq, level, fits}
use lib.Ieee.Fits.{and_l, up_pos, neg-fits}
use Rattle.laws.proofs.If.{if_true, if_false}
use Rattle.ieee.specs.Sign.{sign_of, abs_of}
use Rattle.ieee.specs.Whole.{whole, cut, raised, half_up, round_of, floor_of}
use Rattle.ieee.proofs.Value.{zero_exp}
use Rattle.ieee.proofs.Between.{neg_neg}
use Rattle.ieee.proofs.Units.{fits_parts}
use Rattle.float.specs.Near.{nearby, near_of}
use Rattle.std.specs.Prelude.{None, Option, Some}
use Rattle.float.proofs.Wholes.{H, H_twice}

abbrev plus_zero_value : Float
plus_zero_value = fin false 0 (pos 0)

-- ---- the other sign
neg_odd : (d : ℕ) (s : Bool) (q k l : ℕ) → neg (odd d (not s) q k l) ≡ odd d s q k l
unfolding odd neg
neg_odd d true zero k l = refl
neg_odd d true (suc q) k l = refl
neg_odd d false zero k l = refl
neg_odd d false (suc q) k l = refl

pub neg_whole : (g : ℕ → ℕ → ℕ) (x : Float) → neg (whole g (neg x)) ≡ whole g x
unfolding neg whole
neg_whole g nan = refl
neg_whole g (inf true) = refl
neg_whole g (inf false) = refl
neg_whole g (fin true m (pos k)) = refl
neg_whole g (fin true m (negsuc k)) = neg_odd (size (g m (2 ^ suc k))) true (g m (2 ^ suc k)) 0 0
neg_whole g (fin false m (pos k)) = refl
neg_whole g (fin false m (negsuc k)) = neg_odd (size (g m (2 ^ suc k))) false (g m (2 ^ suc k)) 0 0

-- ---- from H on every value is whole: one with a fraction would need more than `prec` digits
digits_lt : (f : Format) (s : Bool) (m : ℕ) (e : ℤ) → T (fits f (fin s m e)) → m < 2 ^ prec f
digits_lt f s zero e t = pow_pos (prec f)
digits_lt f s (suc m) e t = (fits_parts f s m e t).0

no_fraction : (f : Format) (m k : ℕ) → H f * 2 ^ suc k ≤ m → m < 2 ^ prec f → ⊥
no_fraction f m k h l =
    lt_irrefl (2 ^ prec f) (lt_of_le_of_lt (le_trans (le_of_eq (sym (H_twice f))) (le_trans (mul-le-mul_left (H f) (pow_mono {i = 1} {j = suc k} (omega arith))) h)) l)

pub large : (f : Format) (g : ℕ → ℕ → ℕ) (x : Float) → T (fits f x) → lt plus_zero_value x ≡ true → lt x (fin false 1 (pos (prec f - 1))) ≡ false → x ≡ whole g x
unfolding lt whole
large f g nan fit p t = absurd (false≢true p)
large f g (inf s) fit p t = refl
large f g (fin true m e) fit p t = absurd (false≢true p)
large f g (fin false m (pos k)) fit p t = refl
large f g (fin false m (negsuc k)) fit p t =
    absurd (no_fraction f m k
    (subst (λ (n : ℕ). n * 2 ^ suc k ≤ m) (one-mul (H f)) (subst (λ (n : ℕ). 1 * H f * 2 ^ suc k ≤ n) (mul-one (m * 1) ∙ mul-one m) (ltb-false (m * 1 * 1) (1 * H f * 2 ^ suc k) t)))
    (digits_lt f false m (negsuc k) fit))

pub large_negative : (f : Format) (g : ℕ → ℕ → ℕ) (x : Float) → T (fits f x) → lt plus_zero_value (neg x) ≡ true → lt (neg x) (fin false 1 (pos (prec f - 1))) ≡ false → x ≡ whole g x
large_negative f g x fit p t = sym (neg_neg x) ∙ ap neg (large f g (neg x) (neg-fits f x fit) p t) ∙ neg_whole g x

-- ---- what `near_f64` gives: x rounded where its test holds, and then the number of a given one
pub near_given : (x n : Float) → nearby x ≡ true → n ≡ round_of x → Some n ≡ near_of x
unfolding near_of
near_given x n t e = if_true _ t (ap Some e)

pub near_none : (x : Float) → nearby x ≡ false → None ≡ near_of x
unfolding near_of
near_none x t = if_false _ t refl

pub near_whole : (x : Float) (r : (Option Float)) (n : Float) → r ≡ near_of x → r ≡ Some n → n ≡ round_of x
unfolding near_of
near_whole x r n h e = go (nearby x) (sym e ∙ h)
  where
    go : (b : Bool) → Some n ≡ cond b (Some (round_of x)) None → n ≡ round_of x
    go true p = cc
    go false p = let z : ◌≡◌ {A = ℕ} 0 1 = cc in absurd (let no : ⊥ = omega arith in no)

pub near_whole_mirrored : (x : Float) (r : (Option Float)) (n : Float) → r ≡ near_of (neg x) → r ≡ Some n → neg n ≡ round_of x
near_whole_mirrored x r n h e = ap neg (near_whole (neg x) r n h e) ∙ neg_whole half_up x

-- ---- neither above zero nor below it: a zero or a NaN
above : (m : ℕ) (e : ℤ) → 0 * down e < suc m * up e * 1
above m e = subst (λ (n : ℕ). n < suc m * up e * 1) (sym (zero-mul (down e))) (mul-pos (mul-pos (zero-lt-suc m) (up_pos e)) (zero-lt-suc 0))

clash : {X : Type 0} (b : Bool) → T b → b ≡ false → X
clash b t e = absurd (subst T e t)

pub neither : (f : Format) (g : ℕ → ℕ → ℕ) (x : Float) → T (fits f x) → lt plus_zero_value x ≡ false → lt plus_zero_value (neg x) ≡ false → x ≡ whole g x
unfolding lt neg whole
neither f g nan fit p q = refl
neither f g (inf s) fit p q = refl
neither f g (fin s zero e) fit p q = at_zero (zero_exp f s e fit)
  where
    at_zero : {e : ℤ} → e ≡ pos 0 → fin s zero e ≡ whole g (fin s zero e)
    at_zero {e} h = subst (λ (e : ℤ). fin s zero e ≡ whole g (fin s zero e)) (sym h) (unfold whole in refl)
neither f g (fin false (suc m) e) fit p q = clash (ltb (0 * down e) (suc m * up e * 1)) (lt→ltb (0 * down e) (suc m * up e * 1) (above m e)) p
neither f g (fin true (suc m) e) fit p q = clash (ltb (0 * down e) (suc m * up e * 1)) (lt→ltb (0 * down e) (suc m * up e * 1) (above m e)) q

-- ---- floor: toward zero above it, away from zero below it
sign_above : (x : Float) → lt plus_zero_value x ≡ true → sign_of x ≡ false
unfolding lt
sign_above nan p = absurd (false≢true p)
sign_above (inf true) p = absurd (false≢true p)
sign_above (inf false) p = refl
sign_above (fin true m e) p = absurd (false≢true p)
sign_above (fin false m e) p = refl

sign_below : (x : Float) → lt plus_zero_value (neg x) ≡ true → sign_of x ≡ true
unfolding lt neg
sign_below nan p = absurd (false≢true p)
sign_below (inf true) p = refl
sign_below (inf false) p = absurd (false≢true p)
sign_below (fin true m e) p = refl
sign_below (fin false m e) p = absurd (false≢true p)

pub floor_above : (x y : Float) → lt plus_zero_value x ≡ true → y ≡ whole cut x → y ≡ floor_of x
floor_above x y p e = if_false _ (sign_above x p) e

pub floor_below : (x y : Float) → lt plus_zero_value (neg x) ≡ true → y ≡ whole raised x → y ≡ floor_of x
floor_below x y p e = if_true _ (sign_below x p) e

pub floor_neither : (x : Float) → x ≡ whole cut x → x ≡ whole raised x → x ≡ floor_of x
floor_neither x p q = go (sign_of x)
  where
    go : (b : Bool) → x ≡ cond b (whole raised x) (whole cut x)
    go true = q
    go false = p

-- ---- the absolute value
pub abs_above : (x : Float) → lt plus_zero_value x ≡ true → x ≡ abs_of x
unfolding lt abs_of
abs_above nan p = refl
abs_above (inf true) p = absurd (false≢true p)
abs_above (inf false) p = refl
abs_above (fin true m e) p = absurd (false≢true p)
abs_above (fin false m e) p = refl

zero_level : (s : Bool) (e : ℤ) → T (eq (fin s zero e) plus_zero_value)
unfolding eq
zero_level s e = subst (λ (b : Bool). T b) (sym (level_zero s (zero * up e * 1) (0 * down e) (ap (λ (n : ℕ). n * 1) (zero-mul (up e))) (zero-mul (down e)))) tt
  where
    both : (s : Bool) → level s 0 false 0 ≡ true
    both true = refl
    both false = refl

    level_zero : (s : Bool) (a b : ℕ) → a ≡ 0 → b ≡ 0 → level s a false b ≡ true
    level_zero s a b p q = (λ i. level s (p i) false (q i)) ∙ both s

pub abs_zero : (f : Format) (x : Float) → T (fits f x) → eq x plus_zero_value ≡ true → plus_zero_value ≡ abs_of x
unfolding eq abs_of
abs_zero f nan fit p = absurd (false≢true p)
abs_zero f (inf s) fit p = absurd (false≢true p)
abs_zero f (fin s zero e) fit p = ap (λ (e : ℤ). fin false zero e) (sym (zero_exp f s e fit))
abs_zero f (fin s (suc m) e) fit p =
    absurd (lt_irrefl 0 (subst (λ (n : ℕ). 0 < n)
    (eqb→eq (suc m * up e * 1) (0 * down e) (and_l (eqb (suc m * up e * 1) (0 * down e)) _ (subst T (sym p) tt)) ∙ zero-mul (down e))
    (mul-pos (mul-pos (zero-lt-suc m) (up_pos e)) (zero-lt-suc 0))))

pub abs_else : (x : Float) → lt plus_zero_value x ≡ false → eq x plus_zero_value ≡ false → neg x ≡ abs_of x
unfolding lt neg abs_of
abs_else nan p q = refl
abs_else (inf true) p q = refl
abs_else (inf false) p q = absurd (true≢false p)
abs_else (fin true m e) p q = refl
abs_else (fin false zero e) p q = clash (eq (fin false zero e) plus_zero_value) (zero_level false e) q
abs_else (fin false (suc m) e) p q = clash (ltb (0 * down e) (suc m * up e * 1)) (lt→ltb (0 * down e) (suc m * up e * 1) (above m e)) p
