-- What holds of an exponential whose argument is `Falling`: the two cutoffs are passed, `Low` holds, and its value lies between 2^-124 and 2. Assumes nothing.
use mathlib.Core.Path.{◌≡◌, refl, sym, ap, ◌∙◌, subst}
use mathlib.Core.Bool.{Bool, true, false, not, cond, true≢false}
use Prim.Native.Nat.{ℕ, ◌+◌, ◌-◌, ◌*◌, ◌/◌, ◌%◌, ◌^◌, ◌≤◌, ◌<◌}
use native.Mathlib.Nat.{le_trans, le_of_eq, lt_of_le_of_lt, lt_of_not-le, not-le_of_lt, mul-lt-mul_of_pos_right, le_of_suc-le-suc}
use native.Mathlib.Nat.{mul_assoc, mul-one, one-mul, mul_comm, mul-le-mul_right, mul-le-mul_left, le-div_iff_mul-le, div-lt_iff_lt-mul}
use native.Mathlib.Omega.{arith}
use borrow.Author.Tests.{le-ltb, lt-leb}
use lib.Dec.{T, leb, lit≤, lit<}
use lib.IntN.{ℤ, pos, neg_ℤ}
use lib.Pow.{pow_pos, pow_mono, pow-add}
use lib.Signed.{le_z}
use lib.Ieee.{Float, nan, inf, fin, binary64, up, down, mul, neg, lt, size, is_nan, of_fields, of_bits, to_bits, to_signed}
use lib.Ieee.Digits.{size-lt, size_reaches, size-le}
use lib.Ieee.Fits.{down_pos}
use lib.Ieee.Exact.{HasValue}
use Rattle.laws.proofs.If.{if_false}
use Rattle.ieee.specs.Binary64.{◌⊠◌}
use Rattle.ieee.specs.Sign.{sign_of}
use Rattle.ieee.specs.Numbers.{c80}
use Rattle.ieee.specs.Numbers64.{d0}
use Rattle.ieee.proofs.Value.{mul_value}
use Rattle.ieee.proofs.Bounds.{AtMost, lt_at_most, at_most_lt}
use Rattle.ieee.proofs.Bounded.{Bounded, Beyond, bounded_more, exact_dyadic, mul_bounded, mul_beyond, neg_bounded, round_sign, value_bounded}
use Rattle.ieee.proofs.Fields.{fields_mid}
use Rattle.det.specs.Exp.{INV·LN2, EXP·MAX, EXP·MIN, ldexp2_of, scaled, less_ln2, exp_near, power_of, exp_from, exp_reduced, exp64}
use Rattle.det.specs.Low.{d1000, quotient, Low}
use Rattle.det.proofs.Sums.{d1000_value}
use Rattle.det.proofs.Below.{one_factor, power_low}
use Rattle.det_corners.proofs.Nearness.{Small, near_most, near_least}
use Rattle.det_corners.proofs.Reduction.{INV, Reduced, reduce, inv_below, moved}
use Rattle.det_corners.proofs.Scaling.{Middle, middle}
use Rattle.det_corners.proofs.Top.{power_is}
use Rattle.exp_fall.specs.Falling.{Falling}

-- ---- x lies between -80 and 0
pub record Fallen (x : Float) : Type 0 where
  pub m : ℕ
  pub e : ℤ
  pub is : x ≡ fin true m e
  pub most : m * up e * 1 ≤ 80 * down e

c80_value : HasValue c80 false 80 1
unfolding of_bits
c80_value = (refl, refl)

inv_value : HasValue INV·LN2 false INV (2 ^ 51)
unfolding of_bits
inv_value = (refl, refl)

minus : (y : Float) → sign_of y ≡ false → lt d0 (neg y) ≡ false
unfolding lt neg of_bits
minus nan s = refl
minus (inf true) s = absurd (true≢false s)
minus (inf false) s = refl
minus (fin true m e) s = absurd (true≢false s)
minus (fin false m e) s = refl

fallen : (x : Float) → lt (neg x) c80 ≡ true → lt d0 (quotient x) ≡ true → Fallen x
fallen x above positive = go x above positive
  where
    go : (x : Float) → lt (neg x) c80 ≡ true → lt d0 (quotient x) ≡ true → Fallen x
    go nan a p = absurd (true≢false (sym (unfold neg lt in a)))
    go (inf true) a p = absurd (true≢false (sym (unfold neg lt of_bits in a)))
    go (inf false) a p = absurd (true≢false (sym (unfold mul neg lt of_bits in p)))
    go (fin false m e) a p =
        absurd (true≢false (sym p ∙ minus (fin false m e ⊠ INV·LN2)
        (ap sign_of (mul_value binary64 (fin false m e) INV·LN2 false false (m * up e) (down e) INV (2 ^ 51) (down_pos e) (pow_pos 51) (refl, refl) inv_value) ∙ round_sign binary64 false _ _)))
    go (fin true m e) a p = record { m = m; e = e; is = refl; most = unfold neg in lt_at_most (neg (fin true m e)) c80 80 1 c80_value a }

pub above_number : (x : Float) → lt (neg x) c80 ≡ true → T (not (is_nan x))
unfolding is_nan neg lt
above_number nan h = absurd (true≢false (sym h))
above_number (inf s) h = tt
above_number (fin s m e) h = tt

at_most : (y : Float) (b d : ℕ) → Bounded y b d → AtMost y b d
at_most nan b d w = w
at_most (inf s) b d w = absurd w
at_most (fin true m e) b d w = tt
at_most (fin false m e) b d w = w

module _ (x : Float) (F : Falling x) where
  X : Fallen x
  X = fallen x F.above F.positive

  bounded : Bounded x 80 1
  bounded = subst (λ (y : Float). Bounded y 80 1) (sym X.is) X.most

  pub falling_low : Low x
  falling_low = record { positive = F.positive; below = less; near = F.near }
    where
      inv_most : Bounded INV·LN2 3 2
      inv_most = value_bounded INV (2 ^ 51) 3 2 (pow_pos 51) INV·LN2 false inv_value (lit≤ tt)

      product : Bounded (x ⊠ INV·LN2) 120 1
      product = mul_bounded binary64 80 1 3 2 120 1 (lit< tt) (lit< tt) (lit< tt) (exact_dyadic binary64 120 0 (lit< tt) (lit≤ tt)) x INV·LN2 (lit≤ tt) bounded inv_most

      less : lt (quotient x) d1000 ≡ true
      less = at_most_lt (quotient x) d1000 120 1 1000 1 d1000_value (lit< tt) (at_most (quotient x) 120 1 (neg_bounded (x ⊠ INV·LN2) 120 1 product))

  max_passed : lt EXP·MAX x ≡ false
  max_passed = subst (λ (y : Float). lt EXP·MAX y ≡ false) (sym X.is) (go X.m X.e)
    where
      go : (m : ℕ) (e : ℤ) → lt EXP·MAX (fin true m e) ≡ false
      go m e = unfold lt of_bits in refl

  min_passed : lt x EXP·MIN ≡ false
  min_passed = subst (λ (y : Float). lt y EXP·MIN ≡ false) (sym X.is) (go X.m X.e X.most)
    where
      less : (N D : ℕ) → N * 1 ≤ 80 * D → N * 2 ^ 39 ≤ 409641319322373 * 1 * D
      less N D h = omega arith

      go : (m : ℕ) (e : ℤ) → m * up e * 1 ≤ 80 * down e → lt (fin true m e) EXP·MIN ≡ false
      go m e h = unfold lt of_bits in le-ltb _ _ (less (m * up e) (down e) h)

  pub falling_reduced : exp_reduced x ≡ exp64 x
  unfolding exp64
  falling_reduced = if_false _ max_passed (if_false _ min_passed refl)

  -- ---- its value
  R : Reduced x
  R = reduce x (bounded_more x 80 1 746 1 (lit< tt) (lit≤ tt) bounded)

  abbrev y : Float
  y = exp_near (less_ln2 x (power_of x))

  M : Middle y
  M = middle y (near_most (less_ln2 x (power_of x)) R.rest) (near_least (less_ln2 x (power_of x)) R.rest)

-- ---- the power of two, by its pattern
over : (A C n : ℕ) → 0 < C → A * 1 ≤ 80 * C → 118 * C ≤ n * C → 8 * n * C * 1000000 ≤ A * 1442696 * 8 + 5 * C * 1000000 → ⊥
over A C n P a b h = omega arith

few : (A C n : ℕ) → 0 < C → A * 1 ≤ 80 * C → 8 * n * (C * 2 ^ 51) < A * INV * 8 + 5 * (C * 2 ^ 51) → n ≤ 117
few A C n P h l = le_of_suc-le-suc (lt_of_not-le (λ (b : 118 ≤ n). over A C n P h (mul-le-mul_right C b) (inv_below A (8 * n * C) (5 * C) (moved (8 * n) C 5 (A * INV * 8) l))))

abbrev powered : ℕ → ℕ
powered n = 2 ^ 52 * 2 ^ (1022 - n)

power_value : (n : ℕ) → n ≤ 117 → HasValue (of_bits binary64 ((1023 - n) * 2 ^ 52)) false (powered n) (2 ^ 1074)
unfolding of_bits
power_value n h =
    let b = (1023 - n) * 2 ^ 52 in
    let x = b % 2 ^ 63 / 2 ^ 52 in
    let plus : leb (2 ^ 63) b ≡ false = lt-leb (2 ^ 63) b (least n) in
    rw plus
    (subst (λ (p : ℕ). HasValue (of_fields binary64 false x (b % 2 ^ 52)) false p (2 ^ 1074)) (λ i. (digits n h i + 2 ^ 52) * 2 ^ (place n h i))
    (fields_mid binary64 false x (b % 2 ^ 52) (some n h) (inner n h)))
  where
    least : (n : ℕ) → (1023 - n) * 2 ^ 52 < 2 ^ 63
    least n = omega arith

    digits : (n : ℕ) → n ≤ 117 → (1023 - n) * 2 ^ 52 % 2 ^ 52 ≡ 0
    digits n h = omega arith

    place : (n : ℕ) → n ≤ 117 → (1023 - n) * 2 ^ 52 % 2 ^ 63 / 2 ^ 52 - 1 ≡ 1022 - n
    place n h = omega arith

    some : (n : ℕ) → n ≤ 117 → (1023 - n) * 2 ^ 52 % 2 ^ 63 / 2 ^ 52 ≡ 0 → ⊥
    some n h z = omega arith

    inner : (n : ℕ) → n ≤ 117 → (1023 - n) * 2 ^ 52 % 2 ^ 63 / 2 ^ 52 ≡ 2 * 1023 + 1 → ⊥
    inner n h z = omega arith

power_most : (n : ℕ) → powered n * 1 ≤ 1 * 2 ^ 1074
power_most n =
    le_trans (le_of_eq (mul-one (powered n))) (le_trans (mul-le-mul_left (2 ^ 52) (pow_mono {j = 1022} (most n))) (lit≤ {m = 2 ^ 52 * 2 ^ 1022} {n = 1 * 2 ^ 1074} tt))
  where
    most : (n : ℕ) → 1022 - n ≤ 1022
    most n = omega arith

power_least : (n : ℕ) → n ≤ 117 → 2 ^ 957 ≤ powered n
power_least n h = le_trans (lit≤ {m = 2 ^ 957} {n = 2 ^ 52 * 2 ^ 905} tt) (mul-le-mul_left (2 ^ 52) (pow_mono {i = 905} (least n h)))
  where
    least : (n : ℕ) → n ≤ 117 → 905 ≤ 1022 - n
    least n h = omega arith

-- ---- y · 2 ^ -n
module _ (y : Float) (M : Middle y) (small : Small y 103 6) (n : ℕ) (h : n ≤ 117) where
  abbrev z : Float
  z = y ⊠ of_bits binary64 ((1023 - n) * 2 ^ 52)

  product_most : Bounded z 2 1
  product_most =
      mul_bounded binary64 103 (2 ^ 6) 1 1 2 1 (pow_pos 6) (lit< tt) (lit< tt) (exact_dyadic binary64 2 0 (lit< tt) (lit≤ tt)) y (of_bits binary64 ((1023 - n) * 2 ^ 52)) (lit≤ tt) small
      (value_bounded (powered n) (2 ^ 1074) 1 1 (pow_pos 1074) (of_bits binary64 ((1023 - n) * 2 ^ 52)) false (power_value n h) (power_most n))

  product_least : Beyond false z 1 (2 ^ 124)
  product_least =
      mul_beyond binary64 y (of_bits binary64 ((1023 - n) * 2 ^ 52)) false false M.A M.C (powered n) (2 ^ 1074) 1 (2 ^ 124) M.C_pos (pow_pos 1074) (pow_pos 124) (lit< tt)
      (exact_dyadic binary64 1 124 (lit< tt) (lit≤ tt)) M.value (power_value n h) (product M.A M.C M.least)
    where
      quarter : (A C : ℕ) → 25 * C ≤ A * 64 → C ≤ A * 64
      quarter A C l = omega arith

      product : (A C : ℕ) → 25 * C ≤ A * 64 → 1 * (C * 2 ^ 1074) ≤ A * powered n * 2 ^ 124
      product A C l =
          le_trans (le_of_eq (one-mul (C * 2 ^ 1074)))
          (le_trans (mul-le-mul_right (2 ^ 1074) (quarter A C l))
          (le_trans (le_of_eq (mul_assoc A 64 (2 ^ 1074)))
          (le_trans (mul-le-mul_left A (lit≤ {m = 64 * 2 ^ 1074} {n = 2 ^ 957 * 2 ^ 124} tt))
          (le_trans (mul-le-mul_left A (mul-le-mul_right (2 ^ 124) (power_least n h)))
          (le_of_eq (sym (mul_assoc A (powered n) (2 ^ 124))))))))

-- ---- the pattern of such a value
pub record Normal (x : Float) : Type 0 where
  pub number : T (not (is_nan x))
  pub least : 0x3810_0000_0000_0000 ≤ to_bits binary64 x
  pub most : to_bits binary64 x < 0x47f0_0000_0000_0000

exponent : (S : ℕ) → 951 ≤ S → 52 + (S - 53) ≡ S - 1
exponent S h = omega arith

exponent_next : (S : ℕ) → 951 ≤ S → 53 + (S - 53) ≡ S
exponent_next S h = omega arith

-- N of the smallest values
module _ (N : ℕ) (least : 2 ^ 950 ≤ N) (most : N < 2 ^ 1076) where
  abbrev S : ℕ
  S = size N

  S_least : 951 ≤ S
  S_least = lt_of_not-le (λ (h : S ≤ 950). not-le_of_lt (size-lt N) (le_trans (pow_mono {j = 950} h) least))

  S_most : S ≤ 1076
  S_most = size-le N 1076 most

  q_least : 2 ^ 52 ≤ N / 2 ^ (S - 53)
  q_least =
      (le-div_iff_mul-le (pow_pos (S - 53))).1
      (le_trans (le_of_eq (sym (pow-add 2 52 (S - 53)) ∙ ap (λ (n : ℕ). 2 ^ n) (exponent S S_least))) (size_reaches N (S - 1) (omega (arith, S_least))))

  q_most : N / 2 ^ (S - 53) < 2 ^ 53
  q_most = (div-lt_iff_lt-mul (pow_pos (S - 53))).1 (subst (λ (n : ℕ). N < n) (sym (sym (pow-add 2 53 (S - 53)) ∙ ap (λ (n : ℕ). 2 ^ n) (exponent_next S S_least))) (size-lt N))

  pattern_least : 0x3810_0000_0000_0000 ≤ 0 + (S - 53) * 2 ^ 52 + N / 2 ^ (S - 53)
  pattern_least = go S (N / 2 ^ (S - 53)) S_least q_least
    where
      go : (S q : ℕ) → 951 ≤ S → 2 ^ 52 ≤ q → 0x3810_0000_0000_0000 ≤ 0 + (S - 53) * 2 ^ 52 + q
      go S q h l = omega arith

  pattern_most : 0 + (S - 53) * 2 ^ 52 + N / 2 ^ (S - 53) < 0x47f0_0000_0000_0000
  pattern_most = go S (N / 2 ^ (S - 53)) S_most q_most
    where
      go : (S q : ℕ) → S ≤ 1076 → q < 2 ^ 53 → 0 + (S - 53) * 2 ^ 52 + q < 0x47f0_0000_0000_0000
      go S q h l = omega arith

module _ (m : ℕ) (e : ℤ) (u : m * up e * 1 ≤ 2 * down e) (w : 1 * down e ≤ m * up e * 2 ^ 124) where
  abbrev units : ℕ
  units = m * up e * 2 ^ 1074 / down e

  units_least : 2 ^ 950 ≤ units
  units_least =
      (le-div_iff_mul-le (down_pos e)).1
      (le_trans (le_of_eq (ap (λ (n : ℕ). 2 ^ 950 * n) (sym (one-mul (down e)))))
      (le_trans (mul-le-mul_left (2 ^ 950) w) (le_of_eq (mul_comm (2 ^ 950) (m * up e * 2 ^ 124) ∙ mul_assoc (m * up e) (2 ^ 124) (2 ^ 950)))))

  units_most : units < 2 ^ 1076
  units_most =
      (div-lt_iff_lt-mul (down_pos e)).1
      (lt_of_le_of_lt (le_trans (le_of_eq (ap (λ (n : ℕ). n * 2 ^ 1074) (sym (mul-one (m * up e)))))
      (le_trans (mul-le-mul_right (2 ^ 1074) u) (le_of_eq (mul_comm (2 * down e) (2 ^ 1074) ∙ sym (mul_assoc (2 ^ 1074) 2 (down e))))))
      (mul-lt-mul_of_pos_right (lit< {m = 2 ^ 1074 * 2} {n = 2 ^ 1076} tt) (down_pos e)))

normal : (z : Float) → Bounded z 2 1 → Beyond false z 1 (2 ^ 124) → Normal z
unfolding to_bits is_nan
normal nan u w = absurd u
normal (inf s) u w = absurd u
normal (fin true m e) u w = absurd (true≢false w.0)
normal (fin false m e) u w = record {
  number = tt;
  least = pattern_least (units m e u w.1) (units_least m e u w.1) (units_most m e u w.1);
  most = pattern_most (units m e u w.1) (units_least m e u w.1) (units_most m e u w.1);
}

module _ (x : Float) (F : Falling x) where
  minus_sign : (R x F).s ≡ true
  minus_sign = ap sign_of (sym (R x F).is) ∙ ap sign_of (X x F).is

  n_most : (R x F).n ≤ 117
  n_most = few ((R x F).m * up (R x F).e) (down (R x F).e) (R x F).n (down_pos (R x F).e) (subst (λ (y : Float). Bounded y 80 1) (R x F).is (bounded x F)) (R x F).below

  power : to_signed 63 (power_of x) ≡ neg_ℤ (pos (R x F).n)
  power = power_is x (R x F) ∙ ap (λ (s : Bool). cond s (neg_ℤ (pos (R x F).n)) (pos (R x F).n)) minus_sign

  value : y x F ⊠ of_bits binary64 ((1023 - (R x F).n) * 2 ^ 52) ≡ exp_reduced x
  unfolding exp_reduced exp_from scaled
  value = if_false _ (ap (le_z (pos 1024)) power ∙ one_factor (R x F).n) (ap (λ (p : Float). y x F ⊠ p) (power_low (R x F).n (more (R x F).n n_most) ∙ ap ldexp2_of (sym power)))
    where
      more : (n : ℕ) → n ≤ 117 → n ≤ 1000
      more n h = omega arith

  pub falling_normal : Normal (exp_reduced x)
  falling_normal =
      let small = near_most (less_ln2 x (power_of x)) (R x F).rest in
      subst Normal value (normal (y x F ⊠ of_bits binary64 ((1023 - (R x F).n) * 2 ^ 52)) (product_most (y x F) (M x F) small (R x F).n n_most)
      (product_least (y x F) (M x F) small (R x F).n n_most))
