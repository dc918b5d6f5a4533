-- The whole part of a number from 0 up to 2, where the code takes off 0 or 1 and the definition a floor; and above 0 a floor is a truncation. Assumes nothing.
use mathlib.Core.Path.{◌≡◌, refl, sym, ap, ◌∙◌}
use Prim.Native.Nat.{ℕ, zero, suc, ◌+◌, ◌-◌, ◌*◌, ◌/◌, ◌^◌, ◌≤◌, ◌<◌}
use native.Mathlib.Nat.{mul-one, mul_left_comm, pow-succ', div-eq_of_lt}
use native.Mathlib.Omega.{arith}
use mathlib.Core.Bool.{true, false, false≢true, true≢false}
use lib.IntN.{ℤ, pos, negsuc}
use lib.Arith.{digits_div}
use lib.Ieee.{Float, nan, inf, fin, up, down, lt, odd, of_bits, size, span, climb}
use lib.Ieee.Fits.{down_pos}
use borrow.Author.Tests.{ltb-true, ltb-false}
use Rattle.laws.proofs.If.{if_false}
use Rattle.ieee.specs.Numbers.{c0, c1, c2}
use Rattle.ieee.specs.Sign.{sign_of}
use Rattle.ieee.specs.Whole.{whole, exactly, floor_of, trunc_of}

-- ---- above 0 and below 1
no_number : (n : ℕ) → 0 * 1 * 1 < n * 1 → n * 1 < 1 * 1 * 1 → ⊥
no_number n p q = omega arith

below_one : (m d : ℕ) → m * 1 * 1 < 1 * 1 * d → m < d
below_one m d h = omega arith

cut_none : (x : Float) → lt c0 x ≡ true → lt x c1 ≡ true → c0 ≡ trunc_of x
unfolding lt whole of_bits odd
cut_none nan p q = absurd (false≢true p)
cut_none (inf true) p q = absurd (false≢true p)
cut_none (inf false) p q = absurd (false≢true q)
cut_none (fin true m e) p q = absurd (false≢true p)
cut_none (fin false m (pos k)) p q = absurd (no_number (m * 2 ^ k) (ltb-true _ _ p) (ltb-true _ _ q))
cut_none (fin false m (negsuc k)) p q = ap (λ (n : ℕ). exactly false n 0) (sym (div-eq_of_lt (below_one m (2 ^ suc k) (ltb-true _ _ q))))

sign_none : (x : Float) → lt c0 x ≡ true → sign_of x ≡ false
unfolding lt of_bits
sign_none nan p = refl
sign_none (inf true) p = absurd (false≢true p)
sign_none (inf false) p = refl
sign_none (fin true m e) p = absurd (false≢true p)
sign_none (fin false m e) p = refl

pub floor_cut : (x : Float) → lt c0 x ≡ true → floor_of x ≡ trunc_of x
floor_cut x p = sym (if_false _ (sign_none x p) refl)

pub floor_none : (x : Float) → lt c0 x ≡ true → lt x c1 ≡ true → c0 ≡ floor_of x
floor_none x p q = if_false _ (sign_none x p) (cut_none x p q)

-- ---- from 1 on and below 2
one_number : (n : ℕ) → 1 * 1 * 1 ≤ n * 1 → n * 1 < 1 * 2 * 1 → n ≡ 1
one_number n p q = omega arith

even_one : (t : ℕ) → 2 * t ≡ 1 → ⊥
even_one t h = omega arith

one_whole : (m k : ℕ) → m * 2 ^ k ≡ 1 → fin false m (pos k) ≡ fin false 1 (pos 0)
one_whole m zero h = ap (λ (n : ℕ). fin false n (pos 0)) (sym (mul-one m) ∙ h)
one_whole m (suc k) h = absurd (even_one (m * 2 ^ k) (sym (mul_left_comm m 2 (2 ^ k)) ∙ ap (λ (n : ℕ). m * n) (sym (pow-succ' 2 k)) ∙ h))

cut_between : (m d : ℕ) → 1 * 1 * d ≤ m * 1 * 1 → m * 1 * 1 < 1 * 2 * d → m / d ≡ 1
cut_between m d p q =
    let e : m ≡ 1 * d + (m - d) = omega arith in
    ap (λ (n : ℕ). n / d) e ∙ digits_div 1 (omega arith)

exactly_one : c1 ≡ exactly false 1 0
unfolding of_bits odd size span climb
exactly_one = refl

-- a negative number is below 1
not_none : (a d : ℕ) → 0 < d → a * 1 + 1 * 1 * d ≤ 0 → ⊥
not_none a d h p = omega arith

not_minus : (m : ℕ) (e : ℤ) → lt (fin true m e) c1 ≡ false → ⊥
unfolding lt of_bits
not_minus m e p = not_none (m * up e) (down e) (down_pos e) (ltb-false _ _ p)

cut_one : (x : Float) → lt x c1 ≡ false → lt x c2 ≡ true → c1 ≡ trunc_of x
unfolding lt whole of_bits
cut_one nan p q = absurd (false≢true q)
cut_one (inf true) p q = absurd (true≢false p)
cut_one (inf false) p q = absurd (false≢true q)
cut_one (fin true m e) p q = absurd (not_minus m e p)
cut_one (fin false m (pos k)) p q = sym (one_whole m k (one_number (m * 2 ^ k) (ltb-false _ _ p) (ltb-true _ _ q)))
cut_one (fin false m (negsuc k)) p q = exactly_one ∙ ap (λ (n : ℕ). exactly false n 0) (sym (cut_between m (2 ^ suc k) (ltb-false _ _ p) (ltb-true _ _ q)))

sign_one : (x : Float) → lt x c1 ≡ false → lt x c2 ≡ true → sign_of x ≡ false
unfolding lt of_bits
sign_one nan p q = refl
sign_one (inf true) p q = absurd (true≢false p)
sign_one (inf false) p q = refl
sign_one (fin true m e) p q = absurd (not_minus m e p)
sign_one (fin false m e) p q = refl

pub floor_one : (x : Float) → lt x c1 ≡ false → lt x c2 ≡ true → c1 ≡ floor_of x
floor_one x p q = if_false _ (sign_one x p q) (cut_one x p q)
