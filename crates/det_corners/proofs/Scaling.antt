-- What the two exponentials make of an exp(r) from 25/64 to 103/64 at k = -1023 and at k = 1024. Assumes nothing.
use mathlib.Core.Path.{◌≡◌, refl, sym, ap, ◌∙◌, subst}
use mathlib.Core.Bool.{Bool, true, false, cond}
use Prim.Native.Nat.{ℕ, zero, suc, ◌+◌, ◌-◌, ◌*◌, ◌/◌, ◌%◌, ◌^◌, ◌≤◌, ◌<◌}
use native.Mathlib.Nat.{le_trans, le_of_eq, mul_assoc, mul-one, mul-pos, mul-le-mul_left, mul-le-mul_right, zero-mul}
use native.Mathlib.Omega.{arith}
use borrow.Author.Tests.{ne_eqb}
use lib.IntN.{ℤ, pos, negsuc, nat_abs, ◌+ℤ◌}
use lib.Dec.{T, leb, lit≤, lit<}
use lib.Pow.{pow_pos, pow-lt, pow_mono}
use lib.Signed.{lt_z}
use lib.Ieee.Scale.{finite}
use lib.Ieee.{Float, nan, inf, fin, binary64, up, down, unlike, size, units, odd, of_bits, round, mul}
use lib.Ieee.Fits.{down_pos}
use lib.Ieee.Exact.{HasValue}
use Rattle.ieee.specs.Binary64.{◌⊠◌}
use Rattle.ieee.specs.Numbers64.{d0, d2}
use Rattle.ieee.proofs.Value.{mul_value}
use Rattle.ieee.proofs.Exactly.{round_exactly}
use Rattle.ieee.proofs.Bounded.{Bounded, Beyond, Exact, exact_dyadic, value_bounded, bounded_finite, mul_bounded, mul_beyond}
use Rattle.ieee.proofs.Fields.{fields_low, fields_mid}
use Rattle.det.specs.Exp.{ldexp2_of}
use Rattle.det.proofs.Powers.{Lifted, subnormal, normal}
use Rattle.laws.proofs.If.{if_false}
use Rattle.det_corners.proofs.Nearness.{Small, times}

-- ---- such a y as a fraction A / C
pub record Middle (y : Float) : Type 0 where
  pub A : ℕ
  pub C : ℕ
  pub C_pos : 0 < C
  pub value : HasValue y false A C
  pub most : A * 64 ≤ 103 * C
  pub least : 25 * C ≤ A * 64

pub middle : (y : Float) → Small y 103 6 → Beyond false y 25 64 → Middle y
middle nan u w = absurd u
middle (inf s) u w = absurd u
middle (fin s m e) u w = record { A = m * up e; C = down e; C_pos = down_pos e; value = (w.0, refl); most = u; least = w.1 }

-- ---- 2 ^ 1023 times a number of few digits is a value
exact_most : Exact binary64 (103 * 2 ^ 1017) 1
unfolding round size units odd
exact_most = (refl, refl)

exact_least : Exact binary64 (25 * 2 ^ 1017) 1
unfolding round size units odd
exact_least = (refl, refl)

exact_twice : Exact binary64 (25 * 2 ^ 1018) 1
unfolding round size units odd
exact_twice = (refl, refl)

exact_below : Exact binary64 ((2 ^ 41 - 1) * 2 ^ 982) 1
unfolding round size units odd
exact_below = (refl, refl)

exact_below_twice : Exact binary64 ((2 ^ 41 - 1) * 2 ^ 983) 1
unfolding round size units odd
exact_below_twice = (refl, refl)

-- ---- k = -1023: y · 2 ^ -1023, and y · 0
abbrev pub tiny : Float
tiny = fin false 1 (negsuc 1022)

-- bounds times a common factor, which is too long for `omega`
factor_le : (a b F : ℕ) → a ≤ b → a * F ≤ b * F
factor_le a b F h = mul-le-mul_right F h

pub low_most : (y : Float) → Small y 103 6 → Small (y ⊠ tiny) 103 1029
low_most y u = times 103 6 1 1023 103 1029 tt tt y tiny tt u (lit≤ tt)

pub low_least : (y : Float) → Middle y → Beyond false (y ⊠ tiny) 25 (2 ^ 1029)
low_least y M =
    mul_beyond binary64 y tiny false false M.A M.C 1 (2 ^ 1023) 25 (2 ^ 1029) M.C_pos (pow_pos 1023) (pow_pos 1029) (lit< tt) (exact_dyadic binary64 25 1029 (lit< tt) (lit≤ tt))
    M.value (refl, refl) (le_trans (le_of_eq (sym (mul_assoc 25 M.C (2 ^ 1023)))) (le_trans (factor_le (25 * M.C) (M.A * 64) (2 ^ 1023) M.least) (le_of_eq (powers M.A))))
  where
    powers : (A : ℕ) → A * 64 * 2 ^ 1023 ≡ A * 1 * 2 ^ 1029
    powers A = mul_assoc A 64 (2 ^ 1023) ∙ ap (λ (n : ℕ). n * 2 ^ 1029) (sym (mul-one A))

pub low_zero : (y : Float) → Middle y → y ⊠ d0 ≡ fin false 0 (pos 0)
unfolding of_bits odd size
low_zero y M =
    mul_value binary64 y d0 false false M.A M.C 0 1 M.C_pos (lit< tt) M.value (refl, refl)
    ∙ round_exactly binary64 false 0 0 (lit< tt) (lit≤ tt) (M.A * 0) (M.C * 1) (mul-pos M.C_pos (lit< tt)) (none M.A M.C)
  where
    none : (A C : ℕ) → A * 0 * 1 ≡ 0 * (C * 1)
    none A C = omega arith

-- ---- k = 1024: y · 2 ^ 1023 · 2, and y · ∞
abbrev pub huge : Float
huge = fin false 1 (pos 1023)

-- the first product is finite
first_most : (y : Float) → Small y 103 6 → Bounded (y ⊠ huge) (103 * 2 ^ 1017) 1
first_most y u = mul_bounded binary64 103 64 (2 ^ 1023) 1 (103 * 2 ^ 1017) 1 (lit< tt) (lit< tt) (lit< tt) exact_most y huge (lit≤ tt) u (lit≤ tt)

first_least : (y : Float) → Middle y → Beyond false (y ⊠ huge) (25 * 2 ^ 1017) 1
first_least y M =
    mul_beyond binary64 y huge false false M.A M.C (2 ^ 1023) 1 (25 * 2 ^ 1017) 1 M.C_pos (lit< tt) (lit< tt) (lit< tt) exact_least
    M.value (refl, refl) (scaled_least M.A M.C (2 ^ 1017) M.least)
  where
    scaled_least : (A C F : ℕ) → 25 * C ≤ A * 64 → 25 * F * (C * 1) ≤ A * (F * 64) * 1
    scaled_least A C F h = omega (arith, mul-le-mul_right F h)

second_least : (z : Float) → Bounded z (103 * 2 ^ 1017) 1 → Beyond false z (25 * 2 ^ 1017) 1 → Beyond false (z ⊠ d2) (25 * 2 ^ 1018) 1
unfolding of_bits
second_least nan u w = absurd u
second_least (inf s) u w = absurd u
second_least (fin s m e) u w =
    mul_beyond binary64 (fin s m e) d2 false false (m * up e) (down e) 2 1 (25 * 2 ^ 1018) 1 (down_pos e) (lit< tt) (lit< tt) (lit< tt) exact_twice
    (w.0, refl) (refl, refl) (double (m * up e) (down e) (25 * 2 ^ 1017) w.1)
  where
    double : (N D F : ℕ) → F * D ≤ N * 1 → F * 2 * (D * 1) ≤ N * 2 * 1
    double N D F h = omega arith

pub high_least : (y : Float) → Small y 103 6 → Middle y → Beyond false (y ⊠ huge ⊠ d2) (25 * 2 ^ 1018) 1
high_least y u M = second_least (y ⊠ huge) (first_most y u) (first_least y M)

-- where y is below 1 the second product is finite too
pub high_most : (y : Float) → Small y (2 ^ 41 - 1) 41 → Bounded (y ⊠ huge ⊠ d2) ((2 ^ 41 - 1) * 2 ^ 983) 1
unfolding of_bits
high_most y u =
    mul_bounded binary64 ((2 ^ 41 - 1) * 2 ^ 982) 1 2 1 ((2 ^ 41 - 1) * 2 ^ 983) 1 (lit< tt) (lit< tt) (lit< tt) exact_below_twice (y ⊠ huge) d2 (lit≤ tt)
    (mul_bounded binary64 (2 ^ 41 - 1) (2 ^ 41) (2 ^ 1023) 1 ((2 ^ 41 - 1) * 2 ^ 982) 1 (pow_pos 41) (lit< tt) (lit< tt) exact_below y huge (lit≤ tt) u (lit≤ tt)) (lit≤ tt)

pub high_infinite : (y : Float) → Small y 103 6 → Beyond false y 25 64 → y ⊠ inf false ≡ inf false
unfolding mul
high_infinite nan u w = absurd u
high_infinite (inf s) u w = absurd u
high_infinite (fin s m e) u w =
    ap (λ (b : Bool). cond b nan (inf (unlike s false))) (ne_eqb m 0 (some m e w.1)) ∙ ap (λ (b : Bool). inf (unlike b false)) w.0
  where
    some : (m : ℕ) (e : ℤ) → 25 * down e ≤ m * up e * 64 → m ≡ 0 → ⊥
    some m e h z = go (down e) (down_pos e) (subst (λ (n : ℕ). 25 * down e ≤ n * up e * 64) z h)
      where
        go : (D : ℕ) → 0 < D → 25 * D ≤ 0 * up e * 64 → ⊥
        go D P h = omega (arith, zero-mul (up e))

-- ---- k up to 1023: 2 ^ k is at most 2 ^ 1023
top : 2 ^ 52 * 2 ^ 2045 ≤ 2 ^ 1023 * 2 ^ 1074
top = lit≤ tt

digit_most : (j : ℕ) → j < 52 → Bounded (of_bits binary64 (2 ^ j)) (2 ^ 1023) 1
unfolding of_bits
digit_most j h =
    let b = 2 ^ j in
    let sign = leb (2 ^ 63) b in
    value_bounded (b % 2 ^ 52 * 2 ^ 0) (2 ^ 1074) (2 ^ 1023) 1 (pow_pos 1074) (of_bits binary64 b) sign (fields_low binary64 sign (b % 2 ^ 63 / 2 ^ 52) (b % 2 ^ 52) (none b (pow-lt {j = 52} h)))
    (le_trans (small b) (lit≤ {m = 2 ^ 52} {n = 2 ^ 1023 * 2 ^ 1074} tt))
  where
    none : (b : ℕ) → b < 2 ^ 52 → b % 2 ^ 63 / 2 ^ 52 ≡ 0
    none b h = omega arith

    small : (b : ℕ) → b % 2 ^ 52 * 2 ^ 0 * 1 ≤ 2 ^ 52
    small b = omega arith

field_most : (F : ℕ) → F < 2047 → Bounded (of_bits binary64 (F * 2 ^ 52)) (2 ^ 1023) 1
unfolding of_bits
field_most zero h = lit≤ tt
field_most (suc F) h =
    let b = suc F * 2 ^ 52 in
    let sign = leb (2 ^ 63) b in
    let x = b % 2 ^ 63 / 2 ^ 52 in
    let is : x ≡ suc F = field F h in
    value_bounded ((b % 2 ^ 52 + 2 ^ 52) * 2 ^ (x - 1)) (2 ^ 1074) (2 ^ 1023) 1 (pow_pos 1074) (of_bits binary64 b) sign
    (fields_mid binary64 sign x (b % 2 ^ 52) (λ z. some F (sym is ∙ z)) (λ z. few F h (sym is ∙ z)))
    (le_trans (le_of_eq (mul-one ((b % 2 ^ 52 + 2 ^ 52) * 2 ^ (x - 1)) ∙ ap (λ (n : ℕ). (n + 2 ^ 52) * 2 ^ (x - 1)) (digits F)))
    (le_trans (mul-le-mul_left (2 ^ 52) (pow_mono {j = 2045} (place x F h is))) top))
  where
    field : (F : ℕ) → suc F < 2047 → suc F * 2 ^ 52 % 2 ^ 63 / 2 ^ 52 ≡ suc F
    field F h = omega arith

    digits : (F : ℕ) → suc F * 2 ^ 52 % 2 ^ 52 ≡ 0
    digits F = omega arith

    some : (F : ℕ) → suc F ≡ 0 → ⊥
    some F z = omega arith

    few : (F : ℕ) → suc F < 2047 → suc F ≡ 2 * 1023 + 1 → ⊥
    few F h z = omega arith

    place : (x F : ℕ) → suc F < 2047 → x ≡ suc F → x - 1 ≤ 2045
    place x F h e = omega arith

pub ldexp_most : (k : ℤ) → lt_z (pos 1023) k ≡ false → Bounded (ldexp2_of k) (2 ^ 1023) 1
unfolding ldexp2_of
ldexp_most k t = subst (λ (z : Float). Bounded z (2 ^ 1023) 1) (if_false _ t refl) (go (lt_z k (negsuc 1021)) refl (lt_z k (negsuc 1073)) refl)
  where
    lifted : {j over : ℕ} (L : Lifted k j over) → nat_abs (k +ℤ pos j) < over
    lifted L = subst (λ (n : ℕ). n < _) (sym (ap nat_abs L.is)) L.below

    go : (b : Bool) → lt_z k (negsuc 1021) ≡ b → (c : Bool) → lt_z k (negsuc 1073) ≡ c
        → Bounded (cond b (cond c d0 (of_bits binary64 (2 ^ nat_abs (k +ℤ pos 1074)))) (of_bits binary64 (nat_abs (k +ℤ pos 1023) * 2 ^ 52))) (2 ^ 1023) 1
    go true p true q = unfold of_bits in lit≤ tt
    go true p false q = digit_most (nat_abs (k +ℤ pos 1074)) (lifted (subnormal k p q))
    go false p c q = field_most (nat_abs (k +ℤ pos 1023)) (lifted (normal k t p))

-- so y times it is finite
pub plain_finite : (y : Float) (k : ℤ) → Small y 103 6 → lt_z (pos 1023) k ≡ false → T (finite (y ⊠ ldexp2_of k))
plain_finite y k u t =
    bounded_finite (y ⊠ ldexp2_of k) (103 * 2 ^ 1017) 1
    (mul_bounded binary64 103 64 (2 ^ 1023) 1 (103 * 2 ^ 1017) 1 (lit< tt) (lit< tt) (lit< tt) exact_most y (ldexp2_of k) (lit≤ tt) u (ldexp_most k t))
