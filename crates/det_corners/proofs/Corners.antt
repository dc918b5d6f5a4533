-- The library's exponential and det.rs's own (specs/DetRs): they differ at a `Corner` and nowhere else, no f32 wrapper shows it, and up to the upper
-- cutoff the library's is finite. Assumes nothing.
use mathlib.Core.Path.{◌≡◌, refl, sym, ap, ◌∙◌, subst}
use mathlib.Core.Logic.{◌≢◌, ◌⊎◌, inl, inr}
use mathlib.Core.Bool.{Bool, true, false, not, cond, true≢false}
use Prim.Native.Nat.{ℕ, zero, suc, ◌-◌, ◌*◌, ◌^◌, ◌≤◌, ◌<◌, compare, Ordering}
use native.Mathlib.Nat.{not-le_of_lt}
use native.Mathlib.Omega.{arith}
use borrow.Author.Tests.{le-ltb, lt-ltb}
use lib.IntN.{ℤ, pos, negsuc, neg_ℤ, nat_abs}
use lib.Signed.{lt_z, le_z}
use lib.Dec.{T, lit≤, lit<}
use lib.Pow.{pow_pos}
use lib.Ieee.{Float, nan, inf, fin, binary64, of_bits, lt, mul, add, sub, neg, div, is_nan, to_signed, fits, round, size, units, odd, sum}
use lib.Ieee.Fits.{sub-fits}
use lib.Ieee.Scale.{finite}
use Rattle.laws.proofs.If.{if_false}
use Rattle.ieee.specs.Binary64.{◌⊠◌}
use Rattle.ieee.specs.Numbers64.{d0, d1, d2}
use Rattle.ieee.specs.Whole.{whole}
use Rattle.ieee.specs.Narrow.{narrow_of}
use Rattle.ieee.proofs.Rounding.{Cmp, cmp}
use Rattle.ieee.proofs.Bounded.{Beyond, bounded_more, beyond_less, beyond_sign, bounded_finite}
use Rattle.ieee.proofs.NarrowEnds.{narrow_none, narrow_infinite}
use Rattle.det.specs.Exp.{EXP·MAX, EXP·MIN, ldexp2_of, scaled, less_ln2, exp_near, power_of, exp_from, exp_reduced, exp64}
use Rattle.det_corners.specs.DetRs.{ldexp2_det_rs, exp_det_rs, Corner}
use Rattle.det_corners.proofs.Nearness.{Small, near_most, near_least, below_one}
use Rattle.det_corners.proofs.Reduction.{Reduced, between, reduce}
use Rattle.det_corners.proofs.Top.{power_is, power_most, top_rest}
use Rattle.det_corners.proofs.Scaling.{tiny, huge, Middle, middle, low_most, low_least, low_zero, high_least, high_most, high_infinite, plain_finite}

-- ---- which k it is
data Where (k : ℤ) : Type 0 where
  low : k ≡ negsuc 1022 → Where k
  high : k ≡ pos 1024 → Where k
  past : lt_z (pos 1024) k ≡ true → Where k
  plain : lt_z (pos 1023) k ≡ false → ldexp2_of k ≡ ldexp2_det_rs k → Where k

one_test : {b c : Bool} (x y : Float) → b ≡ c → cond b x y ≡ cond c x y
one_test x y e = ap (λ (t : Bool). cond t x y) e

where_is : (k : ℤ) → Where k
unfolding ldexp2_of ldexp2_det_rs
where_is (pos n) = go (compare n 1024) (cmp n 1024)
  where
    go : (o : Ordering) → Cmp o n 1024 → Where (pos n)
    go Ordering.lt h = plain (le-ltb 1023 n (omega arith)) refl
    go Ordering.eq h = high (ap pos h)
    go Ordering.gt h = past (lt-ltb 1024 n h)
where_is (negsuc m) = go (compare m 1022) (cmp m 1022)
  where
    go : (o : Ordering) → Cmp o m 1022 → Where (negsuc m)
    go Ordering.lt h = plain refl (one_test _ _ (le-ltb 1021 m (omega arith) ∙ sym (le-ltb 1022 m (omega arith))))
    go Ordering.eq h = low (ap negsuc h)
    go Ordering.gt h = plain refl (one_test _ _ (lt-ltb 1021 m (omega arith) ∙ sym (lt-ltb 1022 m (omega arith))))

-- ---- x between the cutoffs
abbrev near : Float → Float
near x = exp_near (less_ln2 x (power_of x))

abbrev power : Float → ℤ
power x = to_signed 63 (power_of x)

-- a NaN has k = 0
number : (x : Float) → power x ≢ pos 0 → T (not (is_nan x))
unfolding is_nan mul whole to_signed
number nan h = h refl
number (inf s) h = tt
number (fin s m e) h = tt

never_past : (x : Float) → lt EXP·MAX x ≡ false → lt x EXP·MIN ≡ false → lt_z (pos 1024) (power x) ≡ false
unfolding is_nan mul whole to_signed
never_past nan p q = refl
never_past (inf s) p q = power_most (inf s) (reduce (inf s) (between (inf s) tt p q)) p
never_past (fin s m e) p q = power_most (fin s m e) (reduce (fin s m e) (between (fin s m e) tt p q)) p

-- which n and sign make 1024
abbrev Minus : ℤ → Type 0
Minus (pos n) = ⊥
Minus (negsuc n) = Unit

at_1024 : (s : Bool) (n : ℕ) → cond s (neg_ℤ (pos n)) (pos n) ≡ pos 1024 → (s ≡ false) × (n ≡ 1024)
at_1024 false n e = (refl, ap nat_abs e)
at_1024 true zero e = absurd (let z : ◌≡◌ {A = ℕ} 0 1024 = ap nat_abs e in let no : ⊥ = omega arith in no)
at_1024 true (suc n) e = absurd (subst Minus e tt)

rest_fits : (x : Float) → T (fits binary64 (less_ln2 x (power_of x)))
unfolding less_ln2
rest_fits x = sub-fits binary64 _ _

zero_narrow : fin false 0 (pos 0) ≡ narrow_of (fin false 0 (pos 0))
unfolding narrow_of round size units odd
zero_narrow = refl

infinity_narrow : inf false ≡ narrow_of (inf false)
unfolding narrow_of
infinity_narrow = refl

no_zero : Beyond false (fin false 0 (pos 0)) 25 (2 ^ 1029) → ⊥
no_zero w = not-le_of_lt (lit< {m = 0} {n = 25} tt) w.1

module _ (x : Float) (n : T (not (is_nan x))) (p : lt EXP·MAX x ≡ false) (q : lt x EXP·MIN ≡ false) where
  R : Reduced x
  R = reduce x (between x n p q)

  most : Small (near x) 103 6
  most = near_most (less_ln2 x (power_of x)) R.rest

  least : Beyond false (near x) 25 64
  least = near_least (less_ln2 x (power_of x)) R.rest

  M : Middle (near x)
  M = middle (near x) most least

  -- ---- k = -1023
  module _ (e : power x ≡ negsuc 1022) where
    new_low : scaled (near x) (power x) ≡ near x ⊠ tiny
    unfolding scaled ldexp2_of of_bits
    new_low = ap (scaled (near x)) e

    old_low : near x ⊠ ldexp2_det_rs (power x) ≡ fin false 0 (pos 0)
    unfolding ldexp2_det_rs
    old_low = ap (λ (k : ℤ). near x ⊠ ldexp2_det_rs k) e ∙ low_zero (near x) M

    narrow_low : narrow_of (scaled (near x) (power x)) ≡ narrow_of (near x ⊠ ldexp2_det_rs (power x))
    narrow_low =
        let y = near x ⊠ tiny in
        ap narrow_of new_low
        ∙ narrow_none y (bounded_more y 103 (2 ^ 1029) 1 (2 ^ 151) (pow_pos 1029) (lit≤ tt) (low_most (near x) most))
        ∙ ap (λ (s : Bool). fin s 0 (pos 0)) (beyond_sign y false 25 (2 ^ 1029) (low_least (near x) M))
        ∙ zero_narrow
        ∙ sym (ap narrow_of old_low)

    differ_low : scaled (near x) (power x) ≢ near x ⊠ ldexp2_det_rs (power x)
    differ_low h = no_zero (subst (λ (y : Float). Beyond false y 25 (2 ^ 1029)) (sym new_low ∙ h ∙ old_low) (low_least (near x) M))

  -- ---- k = 1024
  module _ (e : power x ≡ pos 1024) where
    new_high : scaled (near x) (power x) ≡ near x ⊠ huge ⊠ d2
    unfolding scaled ldexp2_of of_bits
    new_high = ap (scaled (near x)) e

    old_high : near x ⊠ ldexp2_det_rs (power x) ≡ inf false
    unfolding ldexp2_det_rs
    old_high = ap (λ (k : ℤ). near x ⊠ ldexp2_det_rs k) e ∙ high_infinite (near x) most least

    narrow_high : narrow_of (scaled (near x) (power x)) ≡ narrow_of (near x ⊠ ldexp2_det_rs (power x))
    narrow_high =
        let y = near x ⊠ huge ⊠ d2 in
        ap narrow_of new_high
        ∙ narrow_infinite y (beyond_less y false (25 * 2 ^ 1018) 1 (2 ^ 128) 1 (lit< tt) (lit≤ tt) (high_least (near x) most M))
        ∙ infinity_narrow
        ∙ sym (ap narrow_of old_high)

    high_finite : T (finite (scaled (near x) (power x)))
    high_finite =
        let k = at_1024 R.s R.n (sym (power_is x R) ∙ e) in
        let r = less_ln2 x (power_of x) in
        let y : Small (near x) (2 ^ 41 - 1) 41 = below_one r (rest_fits x) R.rest (top_rest x R k.0 k.1 p) in
        subst (λ (z : Float). T (finite z)) (sym new_high) (bounded_finite (near x ⊠ huge ⊠ d2) ((2 ^ 41 - 1) * 2 ^ 983) 1 (high_most (near x) y))

    differ_high : scaled (near x) (power x) ≢ near x ⊠ ldexp2_det_rs (power x)
    differ_high h = subst (λ (y : Float). T (finite y)) (h ∙ old_high) high_finite

-- ---- the laws

-- a corner has a number as x
pub corner_number : (x : Float) → Corner x → T (not (is_nan x))
corner_number x c = number x (λ z. away z c.power)
  where
    away : power x ≡ pos 0 → (power x ≡ negsuc 1022) ⊎ (power x ≡ pos 1024) → ⊥
    away z (inl e) = subst Minus (sym e ∙ z) tt
    away z (inr e) = let b : ◌≡◌ {A = ℕ} 1024 0 = ap nat_abs (sym e ∙ z) in omega arith

-- past the two tests of both exponentials
abbrev new : Float → Float
new x = scaled (near x) (power x)

abbrev old : Float → Float
old x = near x ⊠ ldexp2_det_rs (power x)

-- up to k = 1023 the scaling is one product
below_1024 : (k : ℤ) → lt_z (pos 1023) k ≡ false → le_z (pos 1024) k ≡ false
below_1024 (pos n) t = t
below_1024 (negsuc m) t = t

unscaled : (x : Float) → lt_z (pos 1023) (power x) ≡ false → near x ⊠ ldexp2_of (power x) ≡ new x
unfolding scaled
unscaled x t = if_false _ (below_1024 (power x) t) refl

plain_same : (x : Float) → lt_z (pos 1023) (power x) ≡ false → ldexp2_of (power x) ≡ ldexp2_det_rs (power x) → new x ≡ old x
plain_same x t e = sym (unscaled x t) ∙ ap (λ (z : Float). near x ⊠ z) e

-- outside the corners nothing differs
inner : (x : Float) → lt EXP·MAX x ≡ false → lt x EXP·MIN ≡ false → (Corner x → ⊥) → new x ≡ old x
inner x p q none = go (where_is (power x))
  where
    go : Where (power x) → new x ≡ old x
    go (low e) = absurd (none (record { high = p; low = q; power = inl e }))
    go (high e) = absurd (none (record { high = p; low = q; power = inr e }))
    go (past t) = absurd (true≢false (sym t ∙ never_past x p q))
    go (plain t e) = plain_same x t e

pub elsewhere : (x : Float) → (Corner x → ⊥) → exp64 x ≡ exp_det_rs x
unfolding exp64 exp_reduced exp_from exp_det_rs
elsewhere x none = go (lt EXP·MAX x) refl (lt x EXP·MIN) refl
  where
    go : (b : Bool) → lt EXP·MAX x ≡ b → (c : Bool) → lt x EXP·MIN ≡ c → cond b (inf false) (cond c d0 (new x)) ≡ cond b (inf false) (cond c d0 (old x))
    go true p c q = refl
    go false p true q = refl
    go false p false q = inner x p q none

-- at the corners all differs
pub corner : (x : Float) → Corner x → exp64 x ≢ exp_det_rs x
unfolding exp64 exp_reduced exp_from exp_det_rs
corner x c h = go c.power (if_false _ c.high (if_false _ c.low refl) ∙ h ∙ sym (if_false _ c.high (if_false _ c.low refl)))
  where
    go : (power x ≡ negsuc 1022) ⊎ (power x ≡ pos 1024) → new x ≡ old x → ⊥
    go (inl e) = differ_low x (corner_number x c) c.high c.low e
    go (inr e) = differ_high x (corner_number x c) c.high c.low e

-- no f32 shows it
pub narrowed : (x : Float) → narrow_of (exp64 x) ≡ narrow_of (exp_det_rs x)
unfolding exp64 exp_reduced exp_from exp_det_rs
narrowed x = go (lt EXP·MAX x) refl (lt x EXP·MIN) refl
  where
    at : lt EXP·MAX x ≡ false → lt x EXP·MIN ≡ false → Where (power x) → narrow_of (new x) ≡ narrow_of (old x)
    at p q (low e) = narrow_low x (corner_number x (record { high = p; low = q; power = inl e })) p q e
    at p q (high e) = narrow_high x (corner_number x (record { high = p; low = q; power = inr e })) p q e
    at p q (past t) = absurd (true≢false (sym t ∙ never_past x p q))
    at p q (plain t e) = ap narrow_of (plain_same x t e)

    go : (b : Bool) → lt EXP·MAX x ≡ b → (c : Bool) → lt x EXP·MIN ≡ c → narrow_of (cond b (inf false) (cond c d0 (new x))) ≡ narrow_of (cond b (inf false) (cond c d0 (old x)))
    go true p c q = refl
    go false p true q = refl
    go false p false q = at p q (where_is (power x))

-- up to the upper cutoff the exponential is finite
pub finite_below : (x : Float) → T (not (is_nan x)) → lt EXP·MAX x ≡ false → T (finite (exp64 x))
unfolding exp64 exp_reduced exp_from of_bits
finite_below x n p = subst (λ (b : Bool). T (finite (cond b (inf false) (cond (lt x EXP·MIN) d0 (new x))))) (sym p) (go (lt x EXP·MIN) refl)
  where
    plainly : (q : lt x EXP·MIN ≡ false) → lt_z (pos 1023) (power x) ≡ false → T (finite (new x))
    plainly q t = subst (λ (z : Float). T (finite z)) (unscaled x t) (plain_finite (near x) (power x) (most x n p q) t)

    at : lt x EXP·MIN ≡ false → Where (power x) → T (finite (new x))
    at q (low e) = plainly q (ap (lt_z (pos 1023)) e)
    at q (high e) = high_finite x n p q e
    at q (past t) = absurd (true≢false (sym t ∙ never_past x p q))
    at q (plain t e) = plainly q t

    go : (c : Bool) → lt x EXP·MIN ≡ c → T (finite (cond c d0 (new x)))
    go true q = tt
    go false q = at q (where_is (power x))

-- at a NaN, at the infinities and at both zeros
pub specials
    : (exp64 nan ≡ nan)
    × (exp64 (inf false) ≡ inf false)
    × (exp64 (inf true) ≡ d0)
    × (exp64 d0 ≡ d1)
    × (exp64 (neg d0) ≡ d1)
unfolding exp64 exp_reduced exp_from exp_near less_ln2 scaled ldexp2_of lt mul add sub neg div whole to_signed of_bits round size units odd sum
specials = (refl, refl, refl, refl, refl)

-- at the next f64 above the upper cutoff, at the lower cutoff and at the next below it
pub cutoffs
    : (exp64 (of_bits binary64 0x4086_2e42_fefa_39e7) ≡ inf false)
    × (exp64 EXP·MIN ≡ d0)
    × (exp64 (of_bits binary64 0xc087_4910_d52d_3051) ≡ d0)
unfolding exp64 exp_reduced exp_from exp_near less_ln2 scaled ldexp2_of lt mul add sub neg div whole to_signed of_bits round size units odd sum
cutoffs = (refl, refl, refl)
