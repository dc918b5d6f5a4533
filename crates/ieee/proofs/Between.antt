-- A float between two halves: the whole number between them is the nearest one, at either sign. It is told by comparisons with the halves `n / 2`, as code makes them. Assumes nothing.
use mathlib.Core.Path.{◌≡◌, refl, sym, ap, ◌∙◌, subst}
use mathlib.Core.Bool.{Bool, true, false, not, cond, true≢false, false≢true}
use Prim.Native.Nat.{ℕ, zero, suc, ◌+◌, ◌-◌, ◌*◌, ◌/◌, ◌^◌, ◌≤◌, ◌<◌, min}
use native.Mathlib.Nat.{mul-one, div-eq_of_lt-le, mul-div_cancel, zero-lt-suc}
use native.Mathlib.Omega.{arith}
use lib.IntN.{ℤ, pos, negsuc, neg_ℤ}
use lib.Dec.{T}
use borrow.Author.Tests.{ltb-true, ltb-false}
use lib.Pow.{pow_pos}
use lib.Ieee.{Float, nan, inf, fin, Format, prec, up, down, neg, lt, fits, to_signed}
use lib.Ieee.Fits.{down_pos}
use lib.Ieee.Exact.{HasValue}
use Rattle.ieee.specs.Whole.{whole, exactly, half_up, round_of}
use Rattle.ieee.proofs.Value.{value_unique}
use Rattle.ieee.proofs.Exactly.{exactly_fits, exactly_value}
use Rattle.ieee.proofs.Quotients.{half_one}

-- n / 2, for an odd n
abbrev pub halves : ℕ → Float
halves n = fin false n (negsuc 0)

-- ---- what the comparisons say

-- x has the sign s, and k is the whole number nearest to it in size, a half raised
pub record Near (x : Float) (s : Bool) (k : ℕ) : Type 0 where
  pub m : ℕ
  pub e : ℤ
  pub is : x ≡ fin s m e
  pub size : half_up (m * up e) (down e) ≡ k

-- from k - 1/2 on, or for k = 0 above zero
abbrev pub From : Float → ℕ → Type 0
From x zero = lt (fin false 0 (pos 0)) x ≡ true
From x (suc k) = lt x (halves (k * 2 + 1)) ≡ false

between : (A C k : ℕ) → 0 < C → k * 2 * C ≤ A * 2 + C → A * 2 < (k * 2 + 1) * C → half_up A C ≡ k
between A C k P l h = div-eq_of_lt-le (C * 2) (omega arith) (omega arith)

from_size : (k m : ℕ) (e : ℤ) → From (fin false m e) k → k * 2 * down e ≤ m * up e * 2 + down e
unfolding lt
from_size zero m e t = omega arith
from_size (suc k) m e t = go (m * up e) (down e) (ltb-false (m * up e * 2) ((k * 2 + 1) * 1 * down e) t)
  where
    go : (A C : ℕ) → (k * 2 + 1) * 1 * C ≤ A * 2 → suc k * 2 * C ≤ A * 2 + C
    go A C h = omega arith

pub near : (k : ℕ) (x : Float) → From x k → lt x (halves (k * 2 + 1)) ≡ true → Near x false k
unfolding lt
near k nan f t = absurd (false≢true t)
near zero (inf true) f t = absurd (false≢true f)
near (suc k) (inf true) f t = absurd (true≢false f)
near k (inf false) f t = absurd (false≢true t)
near zero (fin true m e) f t = absurd (false≢true f)
near (suc k) (fin true m e) f t = absurd (go (m * up e) (down e) (down_pos e) (ltb-false 0 (m * up e * 2 + (k * 2 + 1) * 1 * down e) f))
  where
    go : (A C : ℕ) → 0 < C → A * 2 + (k * 2 + 1) * 1 * C ≤ 0 → ⊥
    go A C P h = omega arith
near k (fin false m e) f t =
    let less = go (m * up e) (down e) (ltb-true (m * up e * 2) ((k * 2 + 1) * 1 * down e) t) in
    record { m = m; e = e; is = refl; size = between (m * up e) (down e) k (down_pos e) (from_size k m e f) less }
  where
    go : (A C : ℕ) → A * 2 < (k * 2 + 1) * 1 * C → A * 2 < (k * 2 + 1) * C
    go A C h = omega arith

pub neg_neg : (x : Float) → neg (neg x) ≡ x
unfolding neg
neg_neg nan = refl
neg_neg (inf true) = refl
neg_neg (inf false) = refl
neg_neg (fin true m e) = refl
neg_neg (fin false m e) = refl

-- the same of -x
pub near_mirrored : (k : ℕ) (x : Float) → From (neg x) k → lt (neg x) (halves (k * 2 + 1)) ≡ true → Near x true k
near_mirrored k x f t =
    let n = near k (neg x) f t in
    record { m = n.m; e = n.e; is = sym (neg_neg x) ∙ ap neg n.is ∙ (unfold neg in refl); size = n.size }

-- between -1/2 and 1/2
near_zero : (x : Float) → lt x (halves 1) ≡ true → lt (neg x) (halves 1) ≡ true → (s : Bool) × Near x s 0
unfolding lt neg
near_zero nan p q = absurd (false≢true p)
near_zero (inf true) p q = absurd (false≢true q)
near_zero (inf false) p q = absurd (false≢true p)
near_zero (fin s m e) p q = (s, record { m = m; e = e; is = refl; size = between (m * up e) (down e) 0 (down_pos e) (omega arith) (small s p q) })
  where
    go : (A C : ℕ) → A * 2 < 1 * C → A * 2 < (0 * 2 + 1) * C
    go A C h = omega arith

    small : (s : Bool) → lt (fin s m e) (halves 1) ≡ true → lt (fin (not s) m e) (halves 1) ≡ true → m * up e * 2 < (0 * 2 + 1) * down e
    small true p q = go (m * up e) (down e) (ltb-true (m * up e * 2) (1 * down e) q)
    small false p q = go (m * up e) (down e) (ltb-true (m * up e * 2) (1 * down e) p)

-- ---- a whole number near x, by value
module _ (g : ℕ → ℕ → ℕ) (one : (k : ℕ) → g k 1 ≡ k) where
  pub whole_valued : (s : Bool) (m : ℕ) (e : ℤ) → HasValue (whole g (fin s m e)) s (g (m * up e) (down e)) 1
  unfolding whole
  whole_valued s m (pos j) = (refl, ap (λ (i : ℕ). i * 1) (sym (one (m * 2 ^ j))))
  whole_valued s m (negsuc j) = subst (λ (i : ℕ). HasValue (exactly s (g m (2 ^ suc j)) 0) s (g i (2 ^ suc j)) 1) (sym (mul-one m)) (exactly_value s (g m (2 ^ suc j)) 0)

  pub whole_fitted : (f : Format) (s : Bool) (m : ℕ) (e : ℤ) → T (fits f (fin s m e)) → g (m * up e) (down e) < 2 ^ prec f → T (fits f (whole g (fin s m e)))
  unfolding whole
  whole_fitted f s m (pos j) t h = t
  whole_fitted f s m (negsuc j) t h = exactly_fits f s (g m (2 ^ suc j)) 0 (subst (λ (i : ℕ). g i (2 ^ suc j) < 2 ^ prec f) (mul-one m) h) (omega arith)

-- ---- the nearest whole number
module _ {x : Float} {s : Bool} {k : ℕ} (n : Near x s k) where
  near_value : HasValue (round_of x) s k 1
  near_value =
      let q = half_up (n.m * up n.e) (down n.e) in
      subst (λ (i : ℕ). HasValue (round_of x) s i 1) n.size
      (subst (λ (y : Float). HasValue (round_of y) s q 1) (sym n.is) (whole_valued half_up half_one s n.m n.e))

  pub near_is : (f : Format) → T (fits f x) → k < 2 ^ prec f → exactly s k 0 ≡ round_of x
  near_is f t h =
      let fit = subst (λ (y : Float). T (fits f y)) n.is t in
      let small = subst (λ (i : ℕ). i < 2 ^ prec f) (sym n.size) h in
      value_unique f f (exactly s k 0) (round_of x) s k 1 (zero-lt-suc 0) (exactly_fits f s k 0 h (omega arith))
      (subst (λ (y : Float). T (fits f (round_of y))) (sym n.is) (whole_fitted half_up half_one f s n.m n.e fit small))
      (exactly_value s k 0) near_value

-- ---- as an integer
pub signed_value : (h : ℕ) (x : Float) (s : Bool) (k : ℕ) → k < 2 ^ h → HasValue x s k 1 → to_signed h x ≡ cond s (neg_ℤ (pos k)) (pos k)
unfolding to_signed
signed_value h (fin t m e) s k l v =
    (λ i. cond (v.0 i) (neg_ℤ (pos (min (quotient i) (2 ^ h)))) (pos (min (quotient i) (2 ^ h - 1))))
    ∙ (λ i. cond s (neg_ℤ (pos (least (2 ^ h) l i))) (pos (least' (2 ^ h) l i)))
  where
    quotient : m * up e / down e ≡ k
    quotient = ap (λ (i : ℕ). i / down e) (sym (mul-one (m * up e)) ∙ v.1) ∙ mul-div_cancel k (down_pos e)

    least : (p : ℕ) → k < p → min k p ≡ k
    least p h = omega arith

    least' : (p : ℕ) → k < p → min k (p - 1) ≡ k
    least' p h = omega arith
signed_value h nan s k l v = elim v [ ]
signed_value h (inf _) s k l v = elim v [ ]

pub near_signed : {x : Float} {s : Bool} {k : ℕ} → Near x s k → (h : ℕ) → k < 2 ^ h → to_signed h (round_of x) ≡ cond s (neg_ℤ (pos k)) (pos k)
near_signed {x} {s} {k} n h l = signed_value h (round_of x) s k l (near_value n)

pub zero_signed : (x : Float) → lt x (halves 1) ≡ true → lt (neg x) (halves 1) ≡ true → (h : ℕ) → to_signed h (round_of x) ≡ pos 0
zero_signed x p q h = let z = near_zero x p q in near_signed z.1 h (pow_pos h) ∙ same z.0
  where
    same : (s : Bool) → cond s (neg_ℤ (pos 0)) (pos 0) ≡ pos 0
    same true = refl
    same false = refl
