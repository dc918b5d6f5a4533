-- The law of rounding by a sum with 1.5 * 2^52, at either sign: t + 1.5 * 2^52 lies between 2^52 and 2^53, where every f64 is whole, and an even number is added, so that t is rounded to
-- the nearest whole number, a tie to the even one; the difference loses nothing. A zero has a plus sign. Assumes nothing.
use mathlib.Core.Path.{◌≡◌, refl, sym, ap, ◌∙◌, subst}
use mathlib.Core.Logic.{inl, inr}
use mathlib.Core.Bool.{Bool, true, false, ◌&&◌, cond}
use Prim.Native.Nat.{ℕ, zero, suc, ◌+◌, ◌-◌, ◌*◌, ◌/◌, ◌%◌, ◌^◌, ◌≤◌, ◌<◌, compare, Ordering}
use native.Mathlib.Nat.{add-mul, one-mul, mul-one, div-add-mod', div-eq_of_lt-le, mod-lt, eq-zero-or-pos, lt_of_mul-lt-mul_right, lt_of_le_of_lt, zero-lt-suc}
use native.Mathlib.Omega.{arith}
use lib.IntN.{ℤ}
use lib.Dec.{ltb}
use borrow.Author.Tests.{lt-ltb, le-ltb}
use lib.Ieee.{Float, fin, binary64, of_bits, up, down, nearest, round, sum, add, sub, neg, size, odd}
use lib.Ieee.Fits.{down_pos}
use lib.Ieee.Back.{round_whole}
use lib.Ieee.Exact.{HasValue}
use lib.Ieee.Nearest.{closest}
use Rattle.ieee.proofs.Value.{add_value}
use Rattle.ieee.proofs.Sums.{neg_value}
use Rattle.ieee.proofs.Rounding.{Cmp, cmp, compare_lt, compare_eq, compare_gt}
use Rattle.ieee.proofs.Quotients.{closest_add, closest_below}
use Rattle.float.proofs.Wholes.{top_value}
use Rattle.sin_block.specs.OneSum.{d1·5·2^52, nearest_by_one_sum}

-- ---- a quotient taken from an even number: the nearest is taken from it too
-- by quotient and rest
parts : (n q r c : ℕ) → 0 < c → n ≡ q * c + r → r < c → closest n c ≡ nearest q (compare (r * 2) c)
parts n q r c P e l = (λ i. nearest (quotient i) (compare (rest i * 2) c))
  where
    quotient : n / c ≡ q
    quotient = div-eq_of_lt-le c (omega arith) (omega (arith, add-mul q 1 c, one-mul c))

    same : (x y a : ℕ) → x ≡ y → x * c + a ≡ n → y * c + r ≡ n → a ≡ r
    same x y a h f g = omega (arith, ap (λ (z : ℕ). z * c) h)

    rest : n % c ≡ r
    rest = same (n / c) q (n % c) quotient (div-add-mod' n c) (sym e)

nearest_less : (h q r c : ℕ) → h % 2 ≡ 0 → q + 1 ≤ h → 0 < r → r < c → nearest (h - q - 1) (compare ((c - r) * 2) c) ≡ h - nearest q (compare (r * 2) c)
nearest_less h q r c e l R S = go (compare (r * 2) c) (cmp (r * 2) c)
  where
    go : (o : Ordering) → Cmp o (r * 2) c → nearest (h - q - 1) (compare ((c - r) * 2) c) ≡ h - nearest q o
    go Ordering.lt g = ap (nearest (h - q - 1)) (compare_gt ((c - r) * 2) c (omega arith)) ∙ omega arith
    go Ordering.eq g = ap (nearest (h - q - 1)) (compare_eq ((c - r) * 2) c (omega arith)) ∙ even h q e l
      where
        even : (h q : ℕ) → h % 2 ≡ 0 → q + 1 ≤ h → h - q - 1 + (h - q - 1) % 2 ≡ h - (q + q % 2)
        even h q e l = omega arith
    go Ordering.gt g = ap (nearest (h - q - 1)) (compare_lt ((c - r) * 2) c (omega arith)) ∙ omega arith

pub closest_less : (a c h : ℕ) → 0 < c → h % 2 ≡ 0 → a < h * c → closest (h * c - a) c ≡ h - closest a c
closest_less a c h P e l = go (a / c) (a % c) (sym (div-add-mod' a c)) (mod-lt a P)
  where
    go : (q r : ℕ) → a ≡ q * c + r → r < c → closest (h * c - a) c ≡ h - closest a c
    go q r s g = elim (eq-zero-or-pos r) [
      | inl z ↦ ap (λ (n : ℕ). closest n c) (whole z) ∙ parts ((h - q) * c) (h - q) 0 c P (omega arith) P ∙ ap (nearest (h - q)) none
          ∙ sym (ap (λ (n : ℕ). h - n) (parts a q 0 c P (s ∙ ap (λ (n : ℕ). q * c + n) z) P ∙ ap (nearest q) none))
      | inr p ↦ parts (h * c - a) (h - q - 1) (c - r) c P (split p) (omega arith) ∙ nearest_less h q r c e below p g ∙ sym (ap (λ (n : ℕ). h - n) (parts a q r c P s g))
    ]
      where
        none : compare (0 * 2) c ≡ Ordering.lt
        none = compare_lt 0 c P

        under : q < h
        under = lt_of_mul-lt-mul_right c (lt_of_le_of_lt (at_most (q * c) (s)) l)
          where
            at_most : (n : ℕ) → a ≡ n + r → n ≤ a
            at_most n e = omega arith

        -- h * c in two parts
        rest : h * c ≡ (h - q) * c + q * c
        rest = ap (λ (n : ℕ). n * c) (back h q under) ∙ add-mul (h - q) q c
          where
            back : (h q : ℕ) → q < h → h ≡ h - q + q
            back h q l = omega arith

        last : (h - q) * c ≡ (h - q - 1) * c + c
        last = ap (λ (n : ℕ). n * c) (back h q under) ∙ add-mul (h - q - 1) 1 c ∙ ap (λ (n : ℕ). (h - q - 1) * c + n) (one-mul c)
          where
            back : (h q : ℕ) → q < h → h - q ≡ h - q - 1 + 1
            back h q l = omega arith

        below : q + 1 ≤ h
        below = omega (arith, under)

        whole : r ≡ 0 → h * c - a ≡ (h - q) * c
        whole z = go' (h * c) ((h - q) * c) (q * c) rest s
          where
            go' : (x y w : ℕ) → x ≡ y + w → a ≡ w + r → x - a ≡ y
            go' x y w d s = omega arith

        split : 0 < r → h * c - a ≡ (h - q - 1) * c + (c - r)
        split p = go' (h * c) ((h - q) * c) ((h - q - 1) * c) (q * c) rest last s
          where
            go' : (x y z w : ℕ) → x ≡ y + w → y ≡ z + c → a ≡ w + r → x - a ≡ z + (c - r)
            go' x y z w d f s = omega arith

-- ---- t is A / C in size, below 2^51
-- 2^51, 2^52 and their sum
abbrev G : ℕ
G = 2251799813685248

abbrev H : ℕ
H = 4503599627370496

abbrev K : ℕ
K = 6755399441055744

constant : HasValue d1·5·2^52 false K 1
unfolding of_bits size odd
constant = (refl, refl)

module _ (s : Bool) (n : ℕ) (e : ℤ) (small : n * up e < G * down e) where
  abbrev t : Float
  t = fin s n e

  abbrev A : ℕ
  A = n * up e

  abbrev C : ℕ
  C = down e

  abbrev k : ℕ
  k = closest A C

  k_most : k ≤ G
  k_most = closest_below A C (down_pos e) G small

  t_value : HasValue t s A C
  t_value = (refl, refl)

  -- the sum, by a number of halves of 2^52 that is not negative
  raised : (a : ℕ) (b : ℕ) → a < H * C → closest a C ≡ b → HasValue (round binary64 false (a + H * C) C) false (b + H) 1
  raised a b h g = subst (λ (j : ℕ). HasValue (round binary64 false (a + H * C) C) false (j + H) 1) g (top_value binary64 a C (down_pos e) h)

  below_zero : A * 1 < K * C
  below_zero = omega (arith, small)

  added : (s : Bool) → HasValue (sum binary64 s (A * 1) false (K * C) (C * 1)) false (cond s (K - k) (k + K)) 1
  unfolding sum
  added true =
      subst (λ (b : Bool). HasValue (cond b (round binary64 false (K * C - A * 1) (C * 1)) (round binary64 (ltb (K * C) (A * 1)) (A * 1 - K * C) (C * 1))) false (K - k) 1)
      (sym (lt-ltb (A * 1) (K * C) below_zero))
      (subst (λ (j : ℕ). HasValue (round binary64 false (K * C - A * 1) (C * 1)) false j 1) (number k k_most)
      (subst (λ (y : Float). HasValue y false (G - k + H) 1) (λ i. round binary64 false (same A C small i) (sym (mul-one C) i))
      (raised (G * C - A) (G - k) (less A C (down_pos e)) (closest_less A C G (down_pos e) refl small))))
    where
      number : (k : ℕ) → k ≤ G → G - k + H ≡ K - k
      number k h = omega arith

      same : (a c : ℕ) → a < G * c → G * c - a + H * c ≡ K * c - a * 1
      same a c h = omega arith

      less : (a c : ℕ) → 0 < c → G * c - a < H * c
      less a c h = omega arith
  added false =
      subst (λ (j : ℕ). HasValue (round binary64 false (A * 1 + K * C) (C * 1)) false j 1) (number k)
      (subst (λ (y : Float). HasValue y false (k + G + H) 1) (λ i. round binary64 false (same A C i) (sym (mul-one C) i))
      (raised (A + G * C) (k + G) (less A C small) (closest_add A C G (down_pos e) refl)))
    where
      number : (k : ℕ) → k + G + H ≡ k + K
      number k = omega arith

      same : (a c : ℕ) → a + G * c + H * c ≡ a * 1 + K * c
      same a c = omega arith

      less : (a c : ℕ) → a < G * c → a + G * c < H * c
      less a c h = omega arith

  -- a whole number of at most 53 digits is its own f64
  itself : (s : Bool) → HasValue (round binary64 s k 1) s k 1
  itself s = round_whole binary64 s k (omega (arith, k_most))

  back_true : (j : ℕ) → j ≤ G → HasValue (round binary64 true j 1) true j 1 → HasValue (round binary64 false j 1) false j 1
      → HasValue (cond (ltb ((K - j) * 1) K) (round binary64 true (K - (K - j) * 1) 1) (round binary64 false ((K - j) * 1 - K) 1)) (ltb 0 j) j 1
  back_true zero h v w = w
  back_true (suc j) h v w =
      subst (λ (b : Bool). HasValue (cond b (round binary64 true (K - (K - suc j) * 1) 1) (round binary64 false ((K - suc j) * 1 - K) 1)) (ltb 0 (suc j)) (suc j) 1)
      (sym (lt-ltb ((K - suc j) * 1) K (omega arith)))
      (subst (λ (b : Bool). HasValue (round binary64 true (K - (K - suc j) * 1) 1) b (suc j) 1) (sym (lt-ltb 0 (suc j) (omega arith)))
      (subst (λ (i : ℕ). HasValue (round binary64 true i 1) true (suc j) 1) (same j h) v))
    where
      same : (j : ℕ) → suc j ≤ G → suc j ≡ K - (K - suc j) * 1
      same j h = omega arith

  subtracted : (s : Bool) → HasValue (sum binary64 false (cond s (K - k) (k + K) * 1) true (K * 1) (1 * 1)) (s && ltb 0 k) k 1
  unfolding sum
  subtracted true = back_true k k_most (itself true) (itself false)
  subtracted false =
      subst (λ (b : Bool). HasValue (cond b (round binary64 true (K - (k + K) * 1) 1) (round binary64 false ((k + K) * 1 - K) 1)) false k 1)
      (sym (le-ltb ((k + K) * 1) K (more k)))
      (subst (λ (i : ℕ). HasValue (round binary64 false i 1) false k 1) (same k) (itself false))
    where
      more : (k : ℕ) → K ≤ (k + K) * 1
      more k = omega arith

      same : (k : ℕ) → k ≡ (k + K) * 1 - K
      same k = omega arith

  sum_value : HasValue (add binary64 t d1·5·2^52) false (cond s (K - k) (k + K)) 1
  sum_value =
      subst (λ (y : Float). HasValue y false (cond s (K - k) (k + K)) 1) (sym (add_value binary64 t d1·5·2^52 s false A C K 1 (down_pos e) (zero-lt-suc 0) t_value constant)) (added s)

  pub by_sum_value : HasValue (nearest_by_one_sum t) (s && ltb 0 k) k 1
  unfolding nearest_by_one_sum sub
  by_sum_value =
      subst (λ (y : Float). HasValue y (s && ltb 0 k) k 1)
      (sym (add_value binary64 (add binary64 t d1·5·2^52) (neg d1·5·2^52) false true (cond s (K - k) (k + K)) 1 K 1 (zero-lt-suc 0) (zero-lt-suc 0) sum_value
      (neg_value d1·5·2^52 false K 1 constant)))
      (subtracted s)
