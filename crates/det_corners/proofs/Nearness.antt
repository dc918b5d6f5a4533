-- exp(r) as `exp_near` computes it lies between 25/64 and 103/64 for an r of at most 29/64 in size. The bounds are carried through operation by
-- operation; each is a value of the format, p / 2 ^ l. Assumes nothing.
use mathlib.Core.Path.{◌≡◌, refl, ap, ◌∙◌}
use mathlib.Core.Bool.{Bool, true, false, false≢true}
use Prim.Native.Nat.{ℕ, zero, suc, ◌+◌, ◌-◌, ◌*◌, ◌^◌, ◌≤◌, ◌<◌}
use native.Mathlib.Nat.{le_refl, le_of_eq, lt_of_not-le, not-le_of_lt, mul-one, mul-pos, zero-lt-suc, pow-suc}
use native.Mathlib.Omega.{arith}
use lib.IntN.{ℤ, pos, negsuc}
use lib.Dec.{T, ltb, leb, lit≤, lit<}
use lib.Pow.{pow_pos, pow_mono}
use lib.Ieee.{Float, nan, inf, fin, binary64, up, down, fits, of_bits, neg, sub}
use lib.Ieee.Fits.{down_pos}
use lib.Ieee.Positive.{through}
use Rattle.ieee.specs.Binary64.{◌⊞◌, ◌⊟◌, ◌⊠◌, ◌⧄◌}
use Rattle.ieee.specs.Numbers64.{d1, d2}
use Rattle.ieee.proofs.Units.{fits_parts}
use Rattle.ieee.proofs.Exactly.{round_value}
use Rattle.ieee.proofs.Bounded.{Bounded, Beyond, Exact, exact_dyadic, sub_close, mul_bounded, add_bounded, sub_bounded, div_bounded, add_beyond, beyond_add, neg_bounded}
use Rattle.det.specs.Exp.{P1, P2, P3, P4, P5, exp_near}

-- x is p / 2 ^ l or less in size
abbrev pub Small : Float → ℕ → ℕ → Type 0
Small x p l = Bounded x p (2 ^ l)

-- ---- the operations of an f64 on such bounds: the new one is a value, and large enough
module _ (a i b j p l : ℕ) (few : T (ltb p (2 ^ 53))) (place : T (leb l 1074)) where
  pub times : (x y : Float) → T (leb (a * b * 2 ^ l) (p * (2 ^ i * 2 ^ j))) → Small x a i → Small y b j → Small (x ⊠ y) p l
  times x y h = mul_bounded binary64 a (2 ^ i) b (2 ^ j) p (2 ^ l) (pow_pos i) (pow_pos j) (pow_pos l) (exact_dyadic binary64 p l (lit< few) (lit≤ place)) x y (lit≤ h)

  pub plus : (x y : Float) → T (leb ((a * 2 ^ j + b * 2 ^ i) * 2 ^ l) (p * (2 ^ i * 2 ^ j))) → Small x a i → Small y b j → Small (x ⊞ y) p l
  plus x y h = add_bounded binary64 a (2 ^ i) b (2 ^ j) p (2 ^ l) (pow_pos i) (pow_pos j) (pow_pos l) (exact_dyadic binary64 p l (lit< few) (lit≤ place)) x y (lit≤ h)

  pub less : (x y : Float) → T (leb ((a * 2 ^ j + b * 2 ^ i) * 2 ^ l) (p * (2 ^ i * 2 ^ j))) → Small x a i → Small y b j → Small (x ⊟ y) p l
  less x y h = sub_bounded binary64 a (2 ^ i) b (2 ^ j) p (2 ^ l) (pow_pos i) (pow_pos j) (pow_pos l) (exact_dyadic binary64 p l (lit< few) (lit≤ place)) x y (lit≤ h)

-- ---- the polynomial and c
module _ (r : Float) (R : Small r 29 6) where
  abbrev t : Float
  t = r ⊠ r

  abbrev pub c : Float
  c = r ⊟ t ⊠ (P1 ⊞ t ⊠ (P2 ⊞ t ⊠ (P3 ⊞ t ⊠ (P4 ⊞ t ⊠ P5))))

  t_small : Small t 27 7
  t_small = times 29 6 29 6 27 7 tt tt r r tt R R

  p5 : Small (t ⊠ P5) 1 20
  unfolding of_bits
  p5 = times 27 7 1 20 1 20 tt tt t P5 tt t_small (lit≤ tt)

  p4 : Small (P4 ⊞ t ⊠ P5) 1 18
  unfolding of_bits
  p4 = plus 1 19 1 20 1 18 tt tt P4 (t ⊠ P5) tt (lit≤ tt) p5

  p3 : Small (P3 ⊞ t ⊠ (P4 ⊞ t ⊠ P5)) 1 12
  unfolding of_bits
  p3 = plus 1 13 1 18 1 12 tt tt P3 (t ⊠ (P4 ⊞ t ⊠ P5)) tt (lit≤ tt) (times 27 7 1 18 1 18 tt tt t (P4 ⊞ t ⊠ P5) tt t_small p4)

  p2 : Small (P2 ⊞ t ⊠ (P3 ⊞ t ⊠ (P4 ⊞ t ⊠ P5))) 1 8
  unfolding of_bits
  p2 = plus 3 10 1 12 1 8 tt tt P2 (t ⊠ (P3 ⊞ t ⊠ (P4 ⊞ t ⊠ P5))) tt (lit≤ tt) (times 27 7 1 12 1 12 tt tt t (P3 ⊞ t ⊠ (P4 ⊞ t ⊠ P5)) tt t_small p3)

  p1 : Small (P1 ⊞ t ⊠ (P2 ⊞ t ⊠ (P3 ⊞ t ⊠ (P4 ⊞ t ⊠ P5)))) 173 10
  unfolding of_bits
  p1 = plus 43 8 1 10 173 10 tt tt P1 (t ⊠ (P2 ⊞ t ⊠ (P3 ⊞ t ⊠ (P4 ⊞ t ⊠ P5)))) tt (lit≤ tt) (times 27 7 1 8 1 10 tt tt t (P2 ⊞ t ⊠ (P3 ⊞ t ⊠ (P4 ⊞ t ⊠ P5))) tt t_small p2)

  pub c_small : Small c 1 1
  c_small =
      let p = P1 ⊞ t ⊠ (P2 ⊞ t ⊠ (P3 ⊞ t ⊠ (P4 ⊞ t ⊠ P5))) in
      less 29 6 5 7 1 1 tt tt r (t ⊠ p) tt R (times 27 7 173 10 5 7 tt tt t p tt t_small p1)

  -- c less 2 is -3/2 or further down
  pub c_less_2 : Beyond true (c ⊟ d2) 3 2
  unfolding sub of_bits
  c_less_2 = add_beyond binary64 1 2 2 1 3 2 (lit< tt) (lit< tt) (lit< tt) (exact_dyadic binary64 3 1 (lit< tt) (lit≤ tt)) (lit< tt) (lit≤ tt) c (neg d2) true c_small (unfold neg in (refl, lit≤ tt))

  -- r · c / (c − 2) − r
  abbrev pub z : Float
  z = r ⊠ c ⧄ (c ⊟ d2) ⊟ r

  quotient : Small (r ⊠ c ⧄ (c ⊟ d2)) 5 5
  quotient =
      div_bounded binary64 29 (2 ^ 7) 3 2 5 (2 ^ 5) (pow_pos 7) (lit< tt) (pow_pos 5) (exact_dyadic binary64 5 5 (lit< tt) (lit≤ tt)) (r ⊠ c) (c ⊟ d2) true (lit< tt) (lit≤ tt)
      (times 29 6 1 1 29 7 tt tt r c tt R c_small) c_less_2

  pub z_small : Small z 39 6
  z_small = less 5 5 29 6 39 6 tt tt (r ⊠ c ⧄ (c ⊟ d2)) r tt quotient R

  -- ---- exp(r)
  pub near_most : Small (exp_near r) 103 6
  unfolding exp_near of_bits
  near_most = less 1 0 39 6 103 6 tt tt d1 z tt (lit≤ tt) z_small

  pub near_least : Beyond false (exp_near r) 25 64
  unfolding exp_near of_bits sub
  near_least =
      beyond_add binary64 39 64 1 1 25 64 (lit< tt) (lit< tt) (lit< tt) (exact_dyadic binary64 25 6 (lit< tt) (lit≤ tt)) (lit< tt) (lit≤ tt) d1 (neg z) false
      (refl, lit≤ tt) (neg_bounded z 39 64 z_small)

-- ---- where r is -2 ^ -40 or further down, exp(r) is below 1

-- half of such an r is a value
half : (t : Bool) (m : ℕ) (e : ℤ) → T (fits binary64 (fin t m e)) → m * up e * 2 ^ 6 ≤ 29 * down e → 1 * down e ≤ m * up e * 2 ^ 40 → Exact binary64 (m * up e) (down e * 2)
half t m (pos k) f h b = absurd (none (m * 2 ^ k) h b)
  where
    none : (n : ℕ) → n * 64 ≤ 29 * 1 → 1 * 1 ≤ n * 2 ^ 40 → ⊥
    none n h b = omega arith
half t m (negsuc k) f h b =
    round_value binary64 false m (suc (suc k)) (few m f) place (m * 1) (2 ^ suc k * 2) (mul-pos (pow_pos (suc k)) (zero-lt-suc 1))
    (ap (λ (n : ℕ). n * 2 ^ suc (suc k)) (mul-one m) ∙ ap (λ (n : ℕ). m * n) (pow-suc 2 (suc k)))
  where
    few : (m : ℕ) → T (fits binary64 (fin t m (negsuc k))) → m < 2 ^ 53
    few zero f = lit< tt
    few (suc m) f = (fits_parts binary64 t m (negsuc k) f).0

    digits : (n p : ℕ) → n < 2 ^ 53 → 1 * p ≤ n * 1 * 2 ^ 40 → p < 2 ^ 93
    digits n p h b = omega arith

    room : (k : ℕ) → suc k < 93 → suc (suc k) ≤ 1074
    room k h = omega arith

    place : suc (suc k) ≤ 1074
    place = room k (lt_of_not-le (λ (l : 93 ≤ suc k). not-le_of_lt (digits m (2 ^ suc k) (few m f) b) (pow_mono {i = 93} l)))

module _ (m : ℕ) (e : ℤ) (f : T (fits binary64 (fin true m e))) (R : Small (fin true m e) 29 6) (far : 1 * down e ≤ m * up e * 2 ^ 40) where
  abbrev r : Float
  r = fin true m e

  abbrev A : ℕ
  A = m * up e

  abbrev C : ℕ
  C = down e

  C2 : 0 < C * 2
  C2 = mul-pos (down_pos e) (zero-lt-suc 1)

  A_pos : 0 < A
  A_pos = first A C (down_pos e) far
    where
      first : (A C : ℕ) → 0 < C → 1 * C ≤ A * 2 ^ 40 → 0 < A
      first A C h b = omega arith

  product : Bounded (r ⊠ c r R) A (C * 2)
  product = mul_bounded binary64 A C 1 2 A (C * 2) (down_pos e) (lit< tt) C2 (half true m e f R far) r (c r R) (le_of_eq (ap (λ (n : ℕ). n * (C * 2)) (mul-one A))) (le_refl (A * C)) (c_small r R)

  quotient_half : Bounded (r ⊠ c r R ⧄ (c r R ⊟ d2)) A (C * 2)
  quotient_half = div_bounded binary64 A (C * 2) 3 2 A (C * 2) C2 (lit< tt) C2 (half true m e f R far) (r ⊠ c r R) (c r R ⊟ d2) true (lit< tt) (third A (C * 2)) product (c_less_2 r R)
    where
      third : (A D : ℕ) → A * 2 * D ≤ A * (3 * D)
      third A D = omega arith

  z_far : Beyond false (z r R) A (C * 2)
  unfolding sub neg
  z_far =
      add_beyond binary64 A (C * 2) A C A (C * 2) C2 (down_pos e) C2 (half true m e f R far) A_pos (le_of_eq (double A C)) (r ⊠ c r R ⧄ (c r R ⊟ d2)) (neg r) false
      quotient_half (refl, le_refl (A * C))
    where
      double : (A C : ℕ) → A * (C * 2 * C) + A * C * (C * 2) ≡ A * (C * 2) * (C * 2)
      double A C = omega arith

-- 1 less a z from 2 ^ -41 up to 39/64
less_than_one : (z : Float) → Small z 39 6 → Beyond false z 1 (2 ^ 41) → Small (d1 ⊟ z) (2 ^ 41 - 1) 41
unfolding of_bits
less_than_one nan u w = absurd u
less_than_one (inf s) u w = absurd u
less_than_one (fin s m e) u w =
    sub_close binary64 1 1 (m * up e) (down e) (2 ^ 41 - 1) (2 ^ 41) (lit< tt) (down_pos e) (pow_pos 41) (exact_dyadic binary64 (2 ^ 41 - 1) 41 (lit< tt) (lit≤ tt)) d1 (fin s m e) false
    (refl, refl) (w.0, refl) (one (m * up e) (down e) w.1) (other (m * up e) (down e) u)
  where
    one : (N D : ℕ) → 1 * D ≤ N * 2 ^ 41 → 1 * D * 2 ^ 41 ≤ N * 1 * 2 ^ 41 + (2 ^ 41 - 1) * (1 * D)
    one N D h = omega arith

    other : (N D : ℕ) → N * 2 ^ 6 ≤ 39 * D → N * 1 * 2 ^ 41 ≤ 1 * D * 2 ^ 41 + (2 ^ 41 - 1) * (1 * D)
    other N D h = omega arith

-- from A / (2 · C), which is 2 ^ -41 or more
lowered : (z : Float) (A C : ℕ) → 0 < C → 1 * C ≤ A * 2 ^ 40 → Beyond false z A (C * 2) → Beyond false z 1 (2 ^ 41)
lowered nan A C P h w = w
lowered (inf s) A C P h w = w
lowered (fin s m e) A C P h w = (w.0, through 1 A (m * up e) (2 ^ 41) (C * 2) (down e) (mul-pos P (zero-lt-suc 1)) (twice A C h) w.1)
  where
    twice : (A C : ℕ) → 1 * C ≤ A * 2 ^ 40 → 1 * (C * 2) ≤ A * 2 ^ 41
    twice A C h = omega arith

pub below_one : (r : Float) → T (fits binary64 r) → Small r 29 6 → Beyond true r 1 (2 ^ 40) → Small (exp_near r) (2 ^ 41 - 1) 41
unfolding exp_near
below_one nan f R w = absurd w
below_one (inf s) f R w = absurd R
below_one (fin s m e) f R w = go s w.0 f R
  where
    go : (s : Bool) → s ≡ true → T (fits binary64 (fin s m e)) → (R : Small (fin s m e) 29 6) → Small (exp_near (fin s m e)) (2 ^ 41 - 1) 41
    go false p f R = absurd (false≢true p)
    go true p f R = less_than_one (z (fin true m e) R) (z_small (fin true m e) R) (lowered (z (fin true m e) R) (m * up e) (down e) (down_pos e) w.1 (z_far m e f R w.1))
