-- The f32 wrappers that rest on the exponential give what det.rs's own arithmetic gives: no f32 answer moves by the library's k = -1023 and k = 1024.
-- The hyperbolic tangent does not move at f64 either. Assumes nothing.
use mathlib.Core.Path.{◌≡◌, refl, sym, ap, ◌∙◌, subst, fun_ext}
use mathlib.Core.Logic.{◌⊎◌, inl, inr}
use mathlib.Core.Bool.{Bool, true, false, cond, true≢false}
use Prim.Native.Nat.{ℕ, zero, suc, ◌+◌, ◌-◌, ◌*◌, ◌≤◌, ◌<◌}
use native.Mathlib.Nat.{mul-le-mul_right, le_trans, le_of_eq}
use native.Mathlib.Omega.{arith}
use borrow.Author.Tests.{ltb-false}
use lib.IntN.{pos, negsuc, neg_ℤ, nat_abs}
use lib.Dec.{lit≤, lit<}
use lib.Ieee.{Float, nan, inf, fin, up, down, of_bits, lt, eq, mul, is_nan, to_signed}
use lib.Ieee.Fits.{down_pos}
use Rattle.ieee.specs.Binary64.{◌⊞◌, ◌⊟◌, ◌⊠◌, ◌⧄◌}
use Rattle.ieee.specs.Numbers64.{d0, d1, d2}
use Rattle.ieee.specs.Narrow.{narrow_of}
use Rattle.ieee.proofs.Bounded.{Bounded, bounded_more}
use Rattle.det.specs.Exp.{power_of, exp64}
use Rattle.det.specs.Ln.{ln64}
use Rattle.det.specs.Pow.{powf64}
use Rattle.det.specs.Tanh.{d20, d0·25, expm1_small, tanh_signed, magnitude_of, unit_sign, tanh64}
use Rattle.det.specs.Single.{expf_of, powff_of, tanhf_of}
use Rattle.det_corners.specs.DetRs.{exp_det_rs, powf_det_rs, tanh_det_rs, expf_det_rs, powff_det_rs, tanhf_det_rs, Corner}
use Rattle.det_corners.proofs.Nearness.{times}
use Rattle.det_corners.proofs.Reduction.{INV, reduce, inv_below, moved}
use Rattle.det_corners.proofs.Top.{power_is}
use Rattle.det_corners.proofs.Corners.{corner_number, elsewhere, narrowed}

-- ---- exp
pub expf_same : (x : Float) → expf_of x ≡ expf_det_rs x
expf_same x = narrowed x

-- ---- powf
pub powff_same : (x y : Float) → powff_of x y ≡ powff_det_rs x y
unfolding powf64 powf_det_rs
powff_same x y = go (eq y d0) (eq x d0) (lt x d0)
  where
    go : (a b c : Bool)
        → narrow_of (cond a d1 (cond b (cond (lt d0 y) d0 (inf false)) (cond c nan (exp64 (y ⊠ ln64 x)))))
        ≡ narrow_of (cond a d1 (cond b (cond (lt d0 y) d0 (inf false)) (cond c nan (exp_det_rs (y ⊠ ln64 x)))))
    go true b c = refl
    go false true c = refl
    go false false true = refl
    go false false false = narrowed (y ⊠ ln64 x)

-- ---- tanh: its exponential is of 40 at most, where k is far from both corners
magnitude_is : (s : Bool) (n : ℕ) → nat_abs (cond s (neg_ℤ (pos n)) (pos n)) ≡ n
magnitude_is true zero = refl
magnitude_is true (suc n) = refl
magnitude_is false n = refl

far : (A C n : ℕ) → 0 < C → A * 1 ≤ 40 * C → 1023 * C ≤ n * C → 8 * n * C * 1000000 ≤ A * 1442696 * 8 + 5 * C * 1000000 → ⊥
far A C n P a b h = omega arith

no_corner : (z : Float) → Bounded z 40 1 → Corner z → ⊥
no_corner z u c =
    let R = reduce z (bounded_more z 40 1 746 1 (lit< tt) (lit≤ tt) u) in
    let large : 1023 ≤ R.n = at R.n (sym (magnitude_is R.s R.n) ∙ ap nat_abs (sym (power_is z R))) c.power in
    far (R.m * up R.e) (down R.e) R.n (down_pos R.e) (subst (λ (y : Float). Bounded y 40 1) R.is u) (mul-le-mul_right (down R.e) large)
    (inv_below (R.m * up R.e) (8 * R.n * down R.e) (5 * down R.e) (moved (8 * R.n) (down R.e) 5 (R.m * up R.e * INV * 8) R.below))
  where
    at : (n : ℕ) → n ≡ nat_abs (to_signed 63 (power_of z)) → (to_signed 63 (power_of z) ≡ negsuc 1022) ⊎ (to_signed 63 (power_of z) ≡ pos 1024) → 1023 ≤ n
    at n h (inl e) = le_of_eq (sym (h ∙ ap nat_abs e))
    at n h (inr e) = le_trans (lit≤ {m = 1023} {n = 1024} tt) (le_of_eq (sym (h ∙ ap nat_abs e)))

same_double : (x : Float) → lt d20 x ≡ false → lt x d0·25 ≡ false → exp64 (d2 ⊠ x) ≡ exp_det_rs (d2 ⊠ x)
unfolding lt of_bits mul is_nan
same_double nan p q = elsewhere (d2 ⊠ nan) (λ c. corner_number (d2 ⊠ nan) c)
same_double (inf true) p q = absurd (true≢false q)
same_double (inf false) p q = absurd (true≢false p)
same_double (fin true m e) p q = absurd (above (m * up e) (down e) (down_pos e) (ltb-false _ _ q))
  where
    above : (N D : ℕ) → 0 < D → N * 4 + 1 * 1 * D ≤ 0 → ⊥
    above N D h b = omega arith
same_double (fin false m e) p q =
    let x = fin false m e in
    elsewhere (d2 ⊠ x) (no_corner (d2 ⊠ x) (times 2 0 20 0 40 0 tt tt d2 x tt (lit≤ tt) (most (m * up e) (down e) (ltb-false _ _ p))))
  where
    most : (N D : ℕ) → N * 1 ≤ 5 * 4 * D → N * 1 ≤ 20 * D
    most N D h = h

signed_same : (x sign : Float) → tanh_signed exp64 x sign ≡ tanh_signed exp_det_rs x sign
unfolding tanh_signed
signed_same x sign = go (lt d20 x) refl (lt x d0·25) refl
  where
    series : Float
    series = let e = expm1_small (d2 ⊠ x) in sign ⊠ (e ⧄ (e ⊞ d2))

    go : (b : Bool) → lt d20 x ≡ b → (c : Bool) → lt x d0·25 ≡ c
        → cond b sign (cond c series (sign ⊠ (d1 ⊟ d2 ⧄ (exp64 (d2 ⊠ x) ⊞ d1))))
        ≡ cond b sign (cond c series (sign ⊠ (d1 ⊟ d2 ⧄ (exp_det_rs (d2 ⊠ x) ⊞ d1))))
    go true p c q = refl
    go false p true q = refl
    go false p false q = ap (λ (e : Float). sign ⊠ (d1 ⊟ d2 ⧄ (e ⊞ d1))) (same_double x p q)

pub tanh_same : (x : Float) → tanh64 x ≡ tanh_det_rs x
unfolding tanh64 tanh_det_rs
tanh_same x = ap (λ (y : Float). cond (is_nan x) nan y) (signed_same (magnitude_of x) (unit_sign x))

pub tanhf_same : (x : Float) → tanhf_of x ≡ tanhf_det_rs x
tanhf_same x = ap narrow_of (tanh_same x)

-- ---- whatever is computed from the three wrappers is what det.rs's own give
pub kept
    : {A : Type 0} (F : (Float → Float) → (Float → Float → Float) → (Float → Float) → A) → F expf_of powff_of tanhf_of ≡ F expf_det_rs powff_det_rs tanhf_det_rs
kept F =
    ap (λ (e : Float → Float). F e powff_of tanhf_of) (fun_ext expf_same)
    ∙ ap (λ (p : Float → Float → Float). F expf_det_rs p tanhf_of) (fun_ext (λ x. fun_ext (powff_same x)))
    ∙ ap (F expf_det_rs powff_det_rs) (fun_ext tanhf_same)
