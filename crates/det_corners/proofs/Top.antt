-- The exponential at k = 1024: up to the upper cutoff the rest is -2 ^ -40 or further down. Assumes nothing.
use mathlib.Core.Path.{◌≡◌, refl, sym, ap, ◌∙◌, subst}
use mathlib.Core.Bool.{Bool, true, false, cond}
use Prim.Native.Nat.{ℕ, zero, suc, ◌+◌, ◌-◌, ◌*◌, ◌^◌, ◌≤◌, ◌<◌}
use native.Mathlib.Nat.{le_refl, lt_of_le_of_lt, lt_of_not-le, le_of_suc-le-suc, mul-le-mul_right, mul-pos}
use native.Mathlib.Omega.{arith}
use borrow.Author.Tests.{ltb-false, le-ltb}
use lib.IntN.{ℤ, pos, neg_ℤ}
use lib.Signed.{lt_z}
use lib.Dec.{lit≤, lit<}
use lib.Pow.{pow_pos}
use lib.Ieee.{Float, nan, inf, fin, binary64, up, down, lt, to_signed, of_bits, round, sub, neg, sum}
use lib.Ieee.Fits.{down_pos}
use lib.Ieee.Exact.{HasValue}
use Rattle.ieee.specs.Binary64.{◌⊟◌, ◌⊠◌}
use Rattle.ieee.proofs.Value.{revalue, mul_value, add_value}
use Rattle.ieee.proofs.Exactly.{round_value}
use Rattle.ieee.proofs.Between.{signed_value}
use Rattle.ieee.proofs.Sums.{neg_value}
use Rattle.ieee.proofs.Bounds.{AtMost}
use Rattle.ieee.proofs.Bounded.{Exact, Beyond, value_beyond, exact_dyadic, add_beyond, sub_at_most, neg_beyond, round_beyond}
use Rattle.det.specs.Exp.{LN2·HI, LN2·LO, EXP·MAX, less_ln2, power_of}
use Rattle.det_corners.proofs.Nearness.{Small}
use Rattle.det_corners.proofs.Reduction.{INV, HI, Reduced, inv_below, moved, times_hi}

-- EXP_MAX is MAX / 2 ^ 42, LN2_LO is LO / 2 ^ 84
abbrev MAX : ℕ
MAX = 0xb_1721_7f7d_1cf3

abbrev LO : ℕ
LO = 0xd_1cf7_9abc_9e3b

-- x that is not above the cutoff
max_part : (m : ℕ) (e : ℤ) → lt EXP·MAX (fin false m e) ≡ false → m * up e * 2 ^ 42 ≤ MAX * 1 * down e
unfolding lt of_bits
max_part m e p = ltb-false _ _ p

-- k is 1024 at most
short : (A C : ℕ) → A * 2 ^ 42 ≤ MAX * 1 * C → A * 1000000 ≤ C * 709782713
short A C h = omega arith

over : (A C n : ℕ) → 0 < C → A * 1000000 ≤ C * 709782713 → 1025 * C ≤ n * C → 8 * n * C * 1000000 ≤ A * 1442696 * 8 + 5 * C * 1000000 → ⊥
over A C n P a b h = omega arith

pub top_most : (A C n : ℕ) → 0 < C → A * 2 ^ 42 ≤ MAX * 1 * C → 8 * n * (C * 2 ^ 51) < A * INV * 8 + 5 * (C * 2 ^ 51) → n ≤ 1024
top_most A C n P h l =
    le_of_suc-le-suc (lt_of_not-le (λ (b : 1025 ≤ n). over A C n P (short A C h) (mul-le-mul_right C b) (inv_below A (8 * n * C) (5 * C) (moved (8 * n) C 5 (A * INV * 8) l))))

-- k as an integer
pub power_is : (x : Float) (R : Reduced x) → to_signed 63 (power_of x) ≡ cond R.s (neg_ℤ (pos R.n)) (pos R.n)
power_is x R = signed_value 63 (power_of x) R.s R.n (lt_of_le_of_lt R.most (lit< tt)) R.power

pub power_most : (x : Float) (R : Reduced x) → lt EXP·MAX x ≡ false → lt_z (pos 1024) (to_signed 63 (power_of x)) ≡ false
power_most x R h = ap (lt_z (pos 1024)) (power_is x R) ∙ go R.s R.is
  where
    minus : (n : ℕ) → lt_z (pos 1024) (neg_ℤ (pos n)) ≡ false
    minus zero = refl
    minus (suc n) = refl

    go : (s : Bool) → x ≡ fin s R.m R.e → lt_z (pos 1024) (cond s (neg_ℤ (pos R.n)) (pos R.n)) ≡ false
    go true is = minus R.n
    go false is =
        le-ltb 1024 R.n
        (top_most (R.m * up R.e) (down R.e) R.n (down_pos R.e) (max_part R.m R.e (subst (λ (z : Float). lt EXP·MAX z ≡ false) is h)) R.below)

lo_value : HasValue LN2·LO false LO (2 ^ 84)
unfolding of_bits
lo_value = (refl, refl)

-- 1024 · LN2_LO loses nothing
times_lo : (k : Float) → HasValue k false 1024 1 → HasValue (k ⊠ LN2·LO) false LO (2 ^ 74)
times_lo k v =
    subst (λ (y : Float). HasValue y false LO (2 ^ 74)) (sym (mul_value binary64 k LN2·LO false false 1024 1 LO (2 ^ 84) (lit< tt) (pow_pos 84) v lo_value))
    (revalue (round binary64 false (1024 * LO) (1 * 2 ^ 84)) false (1024 * LO) (1 * 2 ^ 84) LO (2 ^ 74) (lit< tt) refl
    (round_value binary64 false LO 74 (lit< tt) (lit≤ tt) (1024 * LO) (1 * 2 ^ 84) (lit< tt) refl))

exact_40 : Exact binary64 1 (2 ^ 40)
exact_40 = exact_dyadic binary64 1 40 (lit< tt) (lit≤ tt)

-- d, which is at most 0xd1cf3 / 2 ^ 42, less y
below : (d y : Float) → Small d 7 4 → AtMost d 0xd1cf3 (2 ^ 42) → HasValue y false LO (2 ^ 74) → Beyond true (d ⊟ y) 1 (2 ^ 40)
unfolding sub
below nan y u w v = absurd u
below (inf s) y u w v = absurd u
below (fin false m e) y u w v =
    let far = neg_beyond y false LO (2 ^ 74) (value_beyond LO (2 ^ 74) LO (2 ^ 74) (pow_pos 74) y false v (le_refl (LO * 2 ^ 74))) in
    add_beyond binary64 0xd1cf3 (2 ^ 42) LO (2 ^ 74) 1 (2 ^ 40) (pow_pos 42) (pow_pos 74) (pow_pos 40) exact_40 (lit< tt) (lit≤ tt) (fin false m e) (neg y) true w far
below (fin true m e) y u w v =
    subst (λ (z : Float). Beyond true z 1 (2 ^ 40))
    (sym (add_value binary64 (fin true m e) (neg y) true true (m * up e) (down e) LO (2 ^ 74) (down_pos e) (pow_pos 74) (refl, refl) (neg_value y false LO (2 ^ 74) v) ∙ (unfold sum in refl)))
    (round_beyond binary64 true (m * up e * 2 ^ 74 + LO * down e) (down e * 2 ^ 74) 1 (2 ^ 40) (mul-pos (down_pos e) (pow_pos 74)) (pow_pos 40) exact_40 (lit< tt)
    (more (m * up e * 2 ^ 74) (down e)))
  where
    more : (X C : ℕ) → 1 * (C * 2 ^ 74) ≤ (X + LO * C) * 2 ^ 40
    more X C = omega arith

-- r at k = 1024
pub top_rest : (x : Float) (R : Reduced x) → R.s ≡ false → R.n ≡ 1024 → lt EXP·MAX x ≡ false → Beyond true (less_ln2 x (power_of x)) 1 (2 ^ 40)
unfolding less_ln2
top_rest x R p q h =
    let K = power_of x in
    let k : HasValue K false 1024 1 = subst (λ (b : Bool). HasValue K b 1024 1) p (subst (λ (n : ℕ). HasValue K R.s n 1) q R.power) in
    let is : x ≡ fin false R.m R.e = R.is ∙ ap (λ (b : Bool). fin b R.m R.e) p in
    let most = max_part R.m R.e (subst (λ (z : Float). lt EXP·MAX z ≡ false) is h) in
    let value : HasValue x false (R.m * up R.e) (down R.e) = subst (λ (z : Float). HasValue z false (R.m * up R.e) (down R.e)) (sym is) (refl, refl) in
    below (x ⊟ K ⊠ LN2·HI) (K ⊠ LN2·LO) R.first
    (sub_at_most binary64 x (K ⊠ LN2·HI) (R.m * up R.e) (down R.e) (1024 * HI) (2 ^ 32) 0xd1cf3 (2 ^ 42) (down_pos R.e) (pow_pos 32) (pow_pos 42)
    (exact_dyadic binary64 0xd1cf3 42 (lit< tt) (lit≤ tt)) value (times_hi K false 1024 (lit≤ tt) k) (room (R.m * up R.e) (down R.e) most))
    (times_lo K k)
  where
    room : (A C : ℕ) → A * 2 ^ 42 ≤ MAX * 1 * C → A * 2 ^ 32 * 2 ^ 42 ≤ 1024 * HI * C * 2 ^ 42 + 0xd1cf3 * (C * 2 ^ 32)
    room A C h = omega arith
