-- Between its cutoffs the exponential reduces x to an r of at most 29/64 in size. Assumes nothing.
use mathlib.Core.Path.{◌≡◌, refl, sym, ap, ◌∙◌, subst}
use mathlib.Core.Bool.{Bool, true, false, not, true≢false}
use Prim.Native.Nat.{ℕ, zero, suc, ◌+◌, ◌-◌, ◌*◌, ◌^◌, ◌≤◌, ◌<◌}
use native.Mathlib.Nat.{mul_assoc, mul-pos, mul-le-mul_right, lt_of_not-le, le_of_suc-le-suc}
use native.Mathlib.Omega.{arith}
use borrow.Author.Tests.{ltb-false}
use lib.IntN.{ℤ}
use lib.Dec.{T, lit≤, lit<}
use lib.Pow.{pow_pos}
use lib.Ieee.{Float, nan, inf, fin, binary64, up, down, unlike, lt, is_nan, of_bits, round}
use lib.Ieee.Fits.{down_pos}
use lib.Ieee.Exact.{HasValue}
use Rattle.ieee.specs.Binary64.{◌⊟◌, ◌⊠◌}
use Rattle.ieee.specs.Sign.{sign_of}
use Rattle.ieee.specs.Whole.{half_up, round_of}
use Rattle.ieee.specs.Integral.{TiesToAway}
use Rattle.ieee.proofs.Value.{mul_value}
use Rattle.ieee.proofs.Exactly.{round_value}
use Rattle.ieee.proofs.Quotients.{half_one}
use Rattle.ieee.proofs.Integral.{half_asked}
use Rattle.ieee.proofs.Between.{whole_valued}
use Rattle.ieee.proofs.Bounded.{Bounded, Beyond, exact_dyadic, value_bounded, round_sign, round_bounded, round_beyond, sub_close}
use Rattle.det.specs.Exp.{LN2·HI, LN2·LO, INV·LN2, EXP·MAX, EXP·MIN, less_ln2, power_of}
use Rattle.det_corners.proofs.Nearness.{Small, times, less}

-- ---- INV_LN2 is INV / 2 ^ 51, LN2_HI is HI / 2 ^ 32
abbrev pub INV : ℕ
INV = 0xb_8aa3_b295_c17f

abbrev pub HI : ℕ
HI = 0xb172_17f7

-- INV_LN2 lies between 1.442695 and 1.442696, which keeps the numbers short
inv_above : (A Y : ℕ) → A * INV * 8 < Y * 2 ^ 51 → A * 1442695 * 8 ≤ Y * 1000000
inv_above A Y h = omega arith

pub inv_below : (A Y Z : ℕ) → Y * 2 ^ 51 < A * INV * 8 + Z * 2 ^ 51 → Y * 1000000 ≤ A * 1442696 * 8 + Z * 1000000
inv_below A Y Z h = omega arith

pub moved : (i C j X : ℕ) → i * (C * 2 ^ 51) < X + j * (C * 2 ^ 51) → i * C * 2 ^ 51 < X + j * C * 2 ^ 51
moved i C j X h = omega arith

-- n is the whole number nearest to x / ln 2, with a little room: then x is n · LN2_HI to within 7/16
module _ (A C n : ℕ) (most : n * C ≤ 1077 * C) where
  pub close_above : A * INV * 8 < (8 * n + 5) * (C * 2 ^ 51) → A * 2 ^ 32 * 16 ≤ n * HI * C * 16 + 7 * (C * 2 ^ 32)
  close_above h = go (inv_above A ((8 * n + 5) * C) (subst (λ (k : ℕ). A * INV * 8 < k) (sym (mul_assoc (8 * n + 5) C (2 ^ 51))) h))
    where
      go : A * 1442695 * 8 ≤ (8 * n + 5) * C * 1000000 → A * 2 ^ 32 * 16 ≤ n * HI * C * 16 + 7 * (C * 2 ^ 32)
      go h = omega arith

  pub close_below : 8 * n * (C * 2 ^ 51) < A * INV * 8 + 5 * (C * 2 ^ 51) → n * HI * C * 16 ≤ A * 2 ^ 32 * 16 + 7 * (C * 2 ^ 32)
  close_below h = go (inv_below A (8 * n * C) (5 * C) (moved (8 * n) C 5 (A * INV * 8) h))
    where
      go : 8 * n * C * 1000000 ≤ A * 1442696 * 8 + 5 * C * 1000000 → n * HI * C * 16 ≤ A * 2 ^ 32 * 16 + 7 * (C * 2 ^ 32)
      go h = omega arith

-- ---- x between the cutoffs
pub between : (x : Float) → T (not (is_nan x)) → lt EXP·MAX x ≡ false → lt x EXP·MIN ≡ false → Bounded x 746 1
unfolding lt of_bits is_nan
between nan n p q = absurd n
between (inf true) n p q = absurd (true≢false q)
between (inf false) n p q = absurd (true≢false p)
between (fin false m e) n p q = go (m * up e) (down e) (ltb-false _ _ p)
  where
    go : (N D : ℕ) → N * 2 ^ 42 ≤ 3121657384082675 * 1 * D → N * 1 ≤ 746 * D
    go N D h = omega arith
between (fin true m e) n p q = go (m * up e) (down e) (ltb-false _ _ q)
  where
    go : (N D : ℕ) → N * 2 ^ 39 ≤ 409641319322373 * 1 * D → N * 1 ≤ 746 * D
    go N D h = omega arith

-- What is known of x, of k and of the rest: k is n with x's sign, x / ln 2 is n to within 5/8, and x less k · ln 2 is small.
pub record Reduced (x : Float) : Type 0 where
  pub s : Bool
  pub m : ℕ
  pub e : ℤ
  pub is : x ≡ fin s m e
  pub n : ℕ
  pub most : n ≤ 1077
  pub power : HasValue (power_of x) s n 1
  pub below : 8 * n * (down e * 2 ^ 51) < m * up e * INV * 8 + 5 * (down e * 2 ^ 51)
  pub first : Small (x ⊟ power_of x ⊠ LN2·HI) 7 4
  pub rest : Small (less_ln2 x (power_of x)) 29 6

like : (s : Bool) → unlike s false ≡ s
like true = refl
like false = refl

inv_value : HasValue INV·LN2 false INV (2 ^ 51)
unfolding of_bits
inv_value = (refl, refl)

hi_value : HasValue LN2·HI false HI (2 ^ 32)
unfolding of_bits
hi_value = (refl, refl)

-- a product with LN2_HI, which has 32 digits, loses nothing
pub times_hi : (k : Float) (s : Bool) (n : ℕ) → n ≤ 1077 → HasValue k s n 1 → HasValue (k ⊠ LN2·HI) s (n * HI) (2 ^ 32)
times_hi k s n h v =
    subst (λ (y : Float). HasValue y s (n * HI) (2 ^ 32))
    (sym (mul_value binary64 k LN2·HI s false n 1 HI (2 ^ 32) (lit< tt) (pow_pos 32) v hi_value ∙ ap (λ (b : Bool). round binary64 b (n * HI) (1 * 2 ^ 32)) (like s)))
    (round_value binary64 s (n * HI) 32 (omega arith) (lit≤ tt) (n * HI) (1 * 2 ^ 32) (lit< tt) refl)

module _ (s : Bool) (m : ℕ) (e : ℤ) (near : m * up e * 1 ≤ 746 * down e) where
  abbrev x : Float
  x = fin s m e

  abbrev A : ℕ
  A = m * up e

  abbrev C : ℕ
  C = down e

  -- x / ln 2
  t_is : x ⊠ INV·LN2 ≡ round binary64 s (A * INV) (C * 2 ^ 51)
  t_is = mul_value binary64 x INV·LN2 s false A C INV (2 ^ 51) (down_pos e) (pow_pos 51) (refl, refl) inv_value ∙ ap (λ (b : Bool). round binary64 b (A * INV) (C * 2 ^ 51)) (like s)

  t_most : Small (x ⊠ INV·LN2) 1077 0
  unfolding of_bits
  t_most = times 746 0 2955 11 1077 0 tt tt x INV·LN2 tt near (lit≤ tt)

  -- n, the whole number nearest to t: t itself lies within 1/2 of it, and x / ln 2, of which t is the nearest value, within 5/8
  record Counted (t : Float) : Type 0 where
    n : ℕ
    most : n ≤ 1077
    power : HasValue (round_of t) s n 1
    above : A * INV * 8 < (8 * n + 5) * (C * 2 ^ 51)
    below : 8 * n * (C * 2 ^ 51) < A * INV * 8 + 5 * (C * 2 ^ 51)

  module _ (z : Bool) (k : ℕ) (g : ℤ) (is : fin z k g ≡ round binary64 s (A * INV) (C * 2 ^ 51)) where
    den : 0 < C * 2 ^ 51
    den = mul-pos (down_pos e) (pow_pos 51)

    at_least : (b : ℕ) → 0 < b → b < 2 ^ 53 → b * (C * 2 ^ 51) ≤ A * INV * 8 → b * down g ≤ k * up g * 8
    at_least b B few h =
        (subst (λ (t : Float). Beyond s t b 8) (sym is) (round_beyond binary64 s (A * INV) (C * 2 ^ 51) b 8 den (lit< tt) (exact_dyadic binary64 b 3 few (lit≤ tt)) B h)).1

    at_most : (b : ℕ) → b < 2 ^ 53 → A * INV * 8 ≤ b * (C * 2 ^ 51) → k * up g * 8 ≤ b * down g
    at_most b few h = subst (λ (t : Float). Bounded t b 8) (sym is) (round_bounded binary64 s (A * INV) (C * 2 ^ 51) b 8 den (lit< tt) (exact_dyadic binary64 b 3 few (lit≤ tt)) h)

    module _ (n : ℕ) (asked : TiesToAway (k * up g) (down g) n) where
      n_most : k * up g * 1 ≤ 1077 * down g → n ≤ 1077
      n_most u = le_of_suc-le-suc (lt_of_not-le (λ (l : 1078 ≤ n). go (k * up g) (down g) (down_pos g) (mul-le-mul_right (down g) l) asked.from u))
        where
          go : (P Q : ℕ) → 0 < Q → 1078 * Q ≤ n * Q → 2 * n * Q ≤ 2 * P + Q → P * 1 ≤ 1077 * Q → ⊥
          go P Q h a b c = omega arith

      n_above : n ≤ 1077 → A * INV * 8 < (8 * n + 5) * (C * 2 ^ 51)
      n_above l = lt_of_not-le (λ (h : (8 * n + 5) * (C * 2 ^ 51) ≤ A * INV * 8). go (k * up g) (down g) (down_pos g) asked.below (at_least (8 * n + 5) (omega arith) (omega arith) h))
        where
          go : (P Q : ℕ) → 0 < Q → 2 * P + Q < 2 * (n + 1) * Q → (8 * n + 5) * Q ≤ P * 8 → ⊥
          go P Q h a b = omega arith

    n_below : (n : ℕ) → TiesToAway (k * up g) (down g) n → n ≤ 1077 → 8 * n * (C * 2 ^ 51) < A * INV * 8 + 5 * (C * 2 ^ 51)
    n_below zero asked l = none (A * INV * 8) (C * 2 ^ 51) den
      where
        none : (X Y : ℕ) → 0 < Y → 8 * zero * Y < X + 5 * Y
        none X Y h = omega arith
    n_below (suc j) asked l =
        lt_of_not-le (λ (h : A * INV * 8 + 5 * (C * 2 ^ 51) ≤ 8 * suc j * (C * 2 ^ 51)).
        go (k * up g) (down g) (down_pos g) asked.from (at_most (8 * j + 3) (omega arith) (less_five (A * INV * 8) (C * 2 ^ 51) h)))
      where
        go : (P Q : ℕ) → 0 < Q → 2 * suc j * Q ≤ 2 * P + Q → P * 8 ≤ (8 * j + 3) * Q → ⊥
        go P Q h a b = omega arith

        less_five : (X Y : ℕ) → X + 5 * Y ≤ 8 * suc j * Y → X ≤ (8 * j + 3) * Y
        less_five X Y h = omega arith

  counted : (t : Float) → t ≡ round binary64 s (A * INV) (C * 2 ^ 51) → Small t 1077 0 → Counted t
  counted nan is u = absurd u
  counted (inf z) is u = absurd u
  counted (fin z k g) is u =
      let n = half_up (k * up g) (down g) in
      let asked = half_asked (k * up g) (down g) (down_pos g) in
      let most = n_most z k g is n asked u in
      record {
        n = n;
        most = most;
        power = subst (λ (b : Bool). HasValue (round_of (fin z k g)) b n 1) (ap sign_of is ∙ round_sign binary64 s (A * INV) (C * 2 ^ 51)) (whole_valued half_up half_one z k g);
        above = n_above z k g is n asked most;
        below = n_below z k g is n asked most;
      }

  -- x less k · LN2_HI, and less k · LN2_LO
  reduced : Reduced x
  unfolding less_ln2 of_bits
  reduced =
      let t = x ⊠ INV·LN2 in
      let k = counted t t_is t_most in
      let K = power_of x in
      let high = times_hi K s k.n k.most k.power in
      let wide : k.n * C ≤ 1077 * C = mul-le-mul_right C k.most in
      let first : Small (x ⊟ K ⊠ LN2·HI) 7 4 =
      sub_close binary64 A C (k.n * HI) (2 ^ 32) 7 16 (down_pos e) (pow_pos 32) (lit< tt) (exact_dyadic binary64 7 4 (lit< tt) (lit≤ tt)) x (K ⊠ LN2·HI) s
      (refl, refl) high (close_above A C k.n wide k.above) (close_below A C k.n wide k.below) in
      let second : Small (K ⊠ LN2·LO) 1 6 = times 1077 0 1 32 1 6 tt tt K LN2·LO tt (value_bounded k.n 1 1077 1 (lit< tt) K s k.power (omega arith)) (lit≤ tt) in
      record {
        s = s;
        m = m;
        e = e;
        is = refl;
        n = k.n;
        most = k.most;
        power = k.power;
        below = k.below;
        first = first;
        rest = less 7 4 1 6 29 6 tt tt (x ⊟ K ⊠ LN2·HI) (K ⊠ LN2·LO) tt first second;
      }

pub reduce : (x : Float) → Bounded x 746 1 → Reduced x
reduce nan h = absurd h
reduce (inf s) h = absurd h
reduce (fin s m e) h = reduced s m e h
