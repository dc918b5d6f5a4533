-- What the tests of squares say: t is small, and the number that the sum gives is the nearest with a half raised. Assumes nothing.
use mathlib.Core.Path.{◌≡◌, refl, sym, ◌∙◌, subst}
use mathlib.Core.Bool.{Bool, true, false, not, ◌&&◌, cond, true≢false, false≢true}
use Prim.Native.Nat.{ℕ, zero, suc, ◌+◌, ◌-◌, ◌*◌, ◌≤◌, ◌<◌}
use native.Mathlib.Nat.{mul-le-mul, mul-le-mul_right, mul_right_comm, lt_of_lt_of_le, lt_of_mul-lt-mul_right, mul-mul-mul_comm, mul-pos, le_trans, le_of_eq, zero-lt-suc}
use native.Mathlib.Omega.{arith}
use lib.IntN.{ℤ}
use lib.Dec.{ltb, lit<}
use borrow.Author.Tests.{ltb-true, ltb-false, le-ltb, lt-ltb}
use lib.Ieee.{Float, nan, inf, fin, Format, binary64, of_bits, up, down, unlike, round, sum, sub, mul, neg, lt, size, odd}
use lib.Ieee.Fits.{down_pos}
use lib.Ieee.Exact.{HasValue}
use lib.Ieee.Nearest.{closest}
use Rattle.ieee.specs.Whole.{half_up}
use Rattle.ieee.proofs.Value.{add_value}
use Rattle.ieee.proofs.Sums.{neg_value}
use Rattle.ieee.proofs.Bounds.{AtLeast, at_least_lt}
use Rattle.ieee.proofs.Bounded.{Beyond, Exact, round_beyond, mul_beyond, exact_dyadic}
use Rattle.ieee.proofs.Between.{Near}
use Rattle.ieee.proofs.Quotients.{half_same}
use Rattle.sin_block.specs.OneSum.{d0·25, nearest_by_one_sum, SureBelow}
use Rattle.sin_block.proofs.BySum.{by_sum_value}

-- ---- a square below (p / q) squared
plus : (x : Float) (b d : ℕ) → Beyond false x b d → AtLeast x b d
plus nan b d w = w
plus (inf true) b d w = absurd (true≢false w)
plus (inf false) b d w = tt
plus (fin true m e) b d w = absurd (true≢false w.0)
plus (fin false m e) b d w = w.1

alike : (s : Bool) → unlike s s ≡ false
alike true = refl
alike false = refl

square_beyond : (f : Format) (x : Float) (z : Bool) (p q : ℕ) → 0 < p → 0 < q → Exact f (p * p) (q * q) → Beyond z x p q → Beyond false (mul f x x) (p * p) (q * q)
unfolding mul
square_beyond f nan z p q P Q v w = w
square_beyond f (inf true) z p q P Q v w = refl
square_beyond f (inf false) z p q P Q v w = refl
square_beyond f (fin s m e) z p q P Q v w =
    subst (λ (b : Bool). Beyond b (mul f (fin s m e) (fin s m e)) (p * p) (q * q)) (alike s)
    (mul_beyond f (fin s m e) (fin s m e) s s (m * up e) (down e) (m * up e) (down e) (p * p) (q * q) (down_pos e) (down_pos e) (mul-pos Q Q) (mul-pos P P) v (refl, refl) (refl, refl)
    (le_trans (le_of_eq (mul-mul-mul_comm p p (down e) (down e))) (le_trans (mul-le-mul w.1 w.1) (le_of_eq (mul-mul-mul_comm (m * up e) q (m * up e) q)))))

pub square_below : (x : Float) (z : Bool) (limit : Float) (p q : ℕ) → 0 < p → 0 < q → Exact binary64 (p * p) (q * q) → HasValue limit false (p * p) (q * q)
    → lt (mul binary64 x x) limit ≡ true → Beyond z x p q → ⊥
square_below x z limit p q P Q v w h b =
    true≢false (sym h ∙ at_least_lt (mul binary64 x x) limit (p * p) (q * q) (mul-pos Q Q) w (plus (mul binary64 x x) (p * p) (q * q) (square_beyond binary64 x z p q P Q v b)))

quarter : HasValue d0·25 false (1 * 1) (2 * 2)
unfolding of_bits size odd
quarter = (refl, refl)

-- ---- A / C that is k + 1 / 2 or more differs from k by a half or more
half_exact : Exact binary64 1 2
half_exact = exact_dyadic binary64 1 1 (lit< tt) (omega arith)

differ : (z : Bool) (A C k : ℕ) → 0 < C → (k * 2 + 1) * C ≤ A * 2 → (x : Float) → Beyond z (cond (ltb (A * 1) (k * C)) x (round binary64 z (A * 1 - k * C) (C * 1))) 1 2
differ z A C k P h x =
    subst (λ (b : Bool). Beyond z (cond b x (round binary64 z (A * 1 - k * C) (C * 1))) 1 2) (sym (le-ltb (A * 1) (k * C) (omega arith)))
    (round_beyond binary64 z (A * 1 - k * C) (C * 1) 1 2 (omega arith) (zero-lt-suc 1) half_exact (zero-lt-suc 0) (omega arith))

far : (s : Bool) (A C k : ℕ) → 0 < C → (k * 2 + 1) * C ≤ A * 2 → (z : Bool) × Beyond z (sum binary64 s (A * 1) (not (s && ltb 0 k)) (k * C) (C * 1)) 1 2
unfolding sum
far false A C k P h = (false, differ false A C k P h _)
far true A C zero P h = (true, round_beyond binary64 true (A * 1 + 0 * C) (C * 1) 1 2 (omega arith) (zero-lt-suc 1) half_exact (zero-lt-suc 0) (omega arith))
far true A C (suc k) P h = (
  ltb (suc k * C) (A * 1),
  subst (λ (b : Bool). Beyond (ltb (suc k * C) (A * 1)) (sum binary64 true (A * 1) (not b) (suc k * C) (C * 1)) 1 2) (sym (lt-ltb 0 (suc k) (omega arith)))
      (unfold sum in differ (ltb (suc k * C) (A * 1)) A C (suc k) P h _),
)

-- ---- t is sure: its sign, the nearest whole number, and that the sum gives it
pub record Settled (t : Float) (p q : ℕ) : Type 0 where
  pub s : Bool
  pub k : ℕ
  pub near : Near t s k
  pub below : near.m * up near.e * q < p * down near.e
  pub value : HasValue (nearest_by_one_sum t) (s && ltb 0 k) k 1

module _ (limit : Float) (p q : ℕ) (P : 0 < p) (Q : 0 < q) (exact : Exact binary64 (p * p) (q * q)) (at : HasValue limit false (p * p) (q * q)) (small : p ≤ 2251799813685248 * q) where
  inside : (t : Float) → SureBelow limit t → (z : Bool) → Beyond z t p q → ⊥
  inside t S z b = square_below t z limit p q P Q exact at S.below b

  module _ (s : Bool) (n : ℕ) (e : ℤ) (S : SureBelow limit (fin s n e)) (less : n * up e * q < p * down e) where
    abbrev A : ℕ
    A = n * up e

    abbrev C : ℕ
    C = down e

    under : n * up e < 2251799813685248 * down e
    under = lt_of_mul-lt-mul_right q (lt_of_lt_of_le less (le_trans (mul-le-mul_right C small) (le_of_eq (mul_right_comm 2251799813685248 q C))))

    value : HasValue (nearest_by_one_sum (fin s n e)) (s && ltb 0 (closest A C)) (closest A C) 1
    value = by_sum_value s n e under

    -- the difference that is tested
    apart : (closest A C * 2 + 1) * C ≤ A * 2 → ⊥
    unfolding sub
    apart h =
        let b = far s A C (closest A C) (down_pos e) h in
        square_below (sub binary64 (fin s n e) (nearest_by_one_sum (fin s n e))) b.0 d0·25 1 2 (zero-lt-suc 0) (zero-lt-suc 1) (exact_dyadic binary64 1 2 (lit< tt) (omega arith)) quarter S.near
        (subst (λ (x : Float). Beyond b.0 x 1 2)
        (sym (add_value binary64 (fin s n e) (neg (nearest_by_one_sum (fin s n e))) s (not (s && ltb 0 (closest A C))) A C (closest A C) 1 (down_pos e) (zero-lt-suc 0) (
          refl,
          refl,
        ) (neg_value (nearest_by_one_sum (fin s n e)) (s && ltb 0 (closest A C)) (closest A C) 1 value)))
        b.1)

    half : (b : Bool) → ltb (A * 2) ((closest A C * 2 + 1) * C) ≡ b → closest A C ≡ half_up A C
    half true g = half_same A C (down_pos e) (ltb-true _ _ g)
    half false g = absurd (apart (ltb-false _ _ g))

    settled_less : Settled (fin s n e) p q
    settled_less = record {
      s = s;
      k = closest A C;
      near = record { m = n; e = e; is = refl; size = sym (half (ltb (A * 2) ((closest A C * 2 + 1) * C)) refl) };
      below = less;
      value = value;
    }

  settled_fin : (s : Bool) (n : ℕ) (e : ℤ) → SureBelow limit (fin s n e) → (b : Bool) → ltb (n * up e * q) (p * down e) ≡ b → Settled (fin s n e) p q
  settled_fin s n e S false f = absurd (inside (fin s n e) S s (refl, ltb-false (n * up e * q) (p * down e) f))
  settled_fin s n e S true f = settled_less s n e S (ltb-true (n * up e * q) (p * down e) f)

  pub settled : (t : Float) → SureBelow limit t → Settled t p q
  unfolding mul lt
  settled nan S = absurd (false≢true S.below)
  settled (inf s) S = absurd (inside (inf s) S s refl)
  settled (fin s n e) S = settled_fin s n e S (ltb (n * up e * q) (p * down e)) refl
