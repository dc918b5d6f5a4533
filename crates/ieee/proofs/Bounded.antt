-- A float by bounds on its size that are fractions: what operations give of bounded operands. The new bound is itself a value of the format (`Exact`),
-- so that rounding does not pass it. Assumes nothing.
use mathlib.Core.Path.{◌≡◌, refl, sym, ap, ◌∙◌, subst}
use Prim.Native.Nat.{ℕ, zero, suc, ◌+◌, ◌-◌, ◌*◌, ◌/◌, ◌^◌, ◌≤◌, ◌<◌, zero-le}
use native.Mathlib.Nat.{lt_irrefl, lt_of_lt_of_le, lt_of_mul-lt-mul_right, zero-mul, zero-lt-suc, add_comm, le_trans, le_of_eq}
use native.Mathlib.Nat.{le_of_lt, mul-pos, mul-le-mul, mul-le-mul_right, mul-mul-mul_comm, mul_right_comm, mul_assoc, mul_comm, le_of_mul-le-mul_right}
use native.Mathlib.Omega.{arith}
use mathlib.Core.Bool.{Bool, true, false, not, ◌&&◌, beq, cond}
use borrow.Author.Tests.{lt-ltb, le-ltb}
use lib.Dec.{T, ltb}
use lib.IntN.{ℤ}
use lib.Ieee.{Float, nan, inf, fin, Format, prec, emax, low, up, down, unlike, units, odd, size, round, sum, add, sub, mul, div, neg}
use lib.Ieee.Fits.{down_pos, round_is}
use lib.Ieee.Exact.{HasValue}
use lib.Ieee.Order.{round_mono}
use lib.Ieee.Nearest.{closest}
use lib.Pow.{pow_pos}
use lib.Ieee.Positive.{through}
use lib.Ieee.Scale.{finite}
use Rattle.ieee.specs.Sign.{sign_of}
use Rattle.ieee.proofs.Value.{add_value, mul_value, div_value, sub_mul}
use Rattle.ieee.proofs.Exactly.{round_value}
use Rattle.ieee.proofs.Sums.{neg_value}
use Rattle.ieee.proofs.Bounds.{AtMost, AtLeast, le_at_most, le_at_least}

-- x is finite, and b / d or less in size
abbrev pub Bounded : Float → ℕ → ℕ → Type 0
Bounded nan b d = ⊥
Bounded (inf s) b d = ⊥
Bounded (fin s m e) b d = m * up e * d ≤ b * down e

-- x has the sign s, and is b / d or more in size
abbrev pub Beyond : Bool → Float → ℕ → ℕ → Type 0
Beyond s nan b d = ⊥
Beyond s (inf t) b d = t ≡ s
Beyond s (fin t m e) b d = (t ≡ s) × (b * down e ≤ m * up e * d)

-- b / d is a value of the format
abbrev pub Exact : Format → ℕ → ℕ → Type 0
Exact f b d = HasValue (round f false b d) false b d

-- ---- from a value
module _ (a c b d : ℕ) (C : 0 < c) where
  pub value_bounded : (x : Float) (s : Bool) → HasValue x s a c → a * d ≤ b * c → Bounded x b d
  value_bounded nan s v h = v
  value_bounded (inf t) s v h = v
  value_bounded (fin t m e) s v h = through (m * up e) a b (down e) c d C (le_of_eq v.1) h

  pub value_beyond : (x : Float) (s : Bool) → HasValue x s a c → b * c ≤ a * d → Beyond s x b d
  value_beyond nan s v h = v
  value_beyond (inf t) s v h = absurd v
  value_beyond (fin t m e) s v h = (v.0, through b a (m * up e) d c (down e) C h (le_of_eq (sym v.1)))

-- ---- to a wider bound, to a sign, and that it is finite
pub bounded_more : (x : Float) (b d p q : ℕ) → 0 < d → b * q ≤ p * d → Bounded x b d → Bounded x p q
bounded_more nan b d p q D h w = w
bounded_more (inf s) b d p q D h w = w
bounded_more (fin s m e) b d p q D h w = through (m * up e) b p (down e) d q D w h

pub beyond_less : (x : Float) (s : Bool) (b d p q : ℕ) → 0 < d → p * d ≤ b * q → Beyond s x b d → Beyond s x p q
beyond_less nan s b d p q D h w = w
beyond_less (inf t) s b d p q D h w = w
beyond_less (fin t m e) s b d p q D h w = (w.0, through p b (m * up e) q d (down e) D h w.1)

pub beyond_sign : (x : Float) (s : Bool) (b d : ℕ) → Beyond s x b d → sign_of x ≡ s
beyond_sign nan s b d w = absurd w
beyond_sign (inf t) s b d w = w
beyond_sign (fin t m e) s b d w = w.0

pub bounded_finite : (x : Float) (b d : ℕ) → Bounded x b d → T (finite x)
bounded_finite nan b d w = w
bounded_finite (inf s) b d w = w
bounded_finite (fin s m e) b d w = tt

-- ---- a rounded fraction, at either sign
units_bounded : (f : Format) (s : Bool) (q k b d : ℕ) → AtMost (units f false q k) b d → Bounded (units f s q k) b d
unfolding units
units_bounded f s q k b d w = go (ltb (q * 2 ^ k) (2 ^ (low f + suc (emax f)))) q w
  where
    go : (t : Bool) (q : ℕ) → AtMost (cond t (odd (suc (prec f)) false q k (low f)) (inf false)) b d → Bounded (cond t (odd (suc (prec f)) s q k (low f)) (inf s)) b d
    go false q w = w
    go true zero w = unfold odd in w
    go true (suc q) w = unfold odd in w

units_beyond : (f : Format) (s : Bool) (q k b d : ℕ) → AtLeast (units f false q k) b d → Beyond s (units f s q k) b d
unfolding units
units_beyond f s q k b d w = go (ltb (q * 2 ^ k) (2 ^ (low f + suc (emax f)))) q w
  where
    go : (t : Bool) (q : ℕ) → AtLeast (cond t (odd (suc (prec f)) false q k (low f)) (inf false)) b d → Beyond s (cond t (odd (suc (prec f)) s q k (low f)) (inf s)) b d
    go false q w = refl
    go true zero w = unfold odd in (refl, w)
    go true (suc q) w = unfold odd in (refl, w)

units_minus : (f : Format) (q k b d : ℕ) → AtMost (units f true q k) b d
unfolding units
units_minus f q k b d = go (ltb (q * 2 ^ k) (2 ^ (low f + suc (emax f)))) q
  where
    go : (t : Bool) (q : ℕ) → AtMost (cond t (odd (suc (prec f)) true q k (low f)) (inf true)) b d
    go false q = tt
    go true zero = unfold odd in tt
    go true (suc q) = unfold odd in tt

module _ (f : Format) (s : Bool) (a c b d : ℕ) (C : 0 < c) (D : 0 < d) (v : Exact f b d) where
  abbrev k : ℕ
  k = size (a * 2 ^ low f / c) - prec f

  abbrev q : ℕ
  q = closest (a * 2 ^ low f) (c * 2 ^ k)

  pub round_bounded : a * d ≤ b * c → Bounded (round f s a c) b d
  round_bounded h =
      let plain : AtMost (round f false a c) b d = le_at_most (round f false a c) (round f false b d) b d v (round_mono f a c b d C D h) in
      subst (λ (x : Float). Bounded x b d) (sym (round_is f s a c)) (units_bounded f s q k b d (subst (λ (x : Float). AtMost x b d) (round_is f false a c) plain))

  pub round_beyond : 0 < b → b * c ≤ a * d → Beyond s (round f s a c) b d
  round_beyond B h =
      let plain : AtLeast (round f false a c) b d = le_at_least (round f false a c) (round f false b d) b d B v (round_mono f b d a c D C h) in
      subst (λ (x : Float). Beyond s x b d) (sym (round_is f s a c)) (units_beyond f s q k b d (subst (λ (x : Float). AtLeast x b d) (round_is f false a c) plain))

-- a rounded fraction has the sign that it is rounded with
units_sign : (f : Format) (s : Bool) (q k : ℕ) → sign_of (units f s q k) ≡ s
unfolding units
units_sign f s q k = go (ltb (q * 2 ^ k) (2 ^ (low f + suc (emax f)))) q
  where
    go : (t : Bool) (q : ℕ) → sign_of (cond t (odd (suc (prec f)) s q k (low f)) (inf s)) ≡ s
    go false q = refl
    go true zero = unfold odd in refl
    go true (suc q) = unfold odd in refl

pub round_sign : (f : Format) (s : Bool) (a c : ℕ) → sign_of (round f s a c) ≡ s
round_sign f s a c = ap sign_of (round_is f s a c) ∙ units_sign f s _ _

-- ---- the negative
pub neg_bounded : (x : Float) (b d : ℕ) → Bounded x b d → Bounded (neg x) b d
unfolding neg
neg_bounded nan b d w = w
neg_bounded (inf t) b d w = absurd w
neg_bounded (fin t m e) b d w = w

pub neg_beyond : (x : Float) (t : Bool) (b d : ℕ) → Beyond t x b d → Beyond (not t) (neg x) b d
unfolding neg
neg_beyond nan t b d w = w
neg_beyond (inf s) t b d w = ap not w
neg_beyond (fin s m e) t b d w = (ap not w.0, w.1)

-- ---- p / 2 ^ l with a p of at most `prec` digits is a value of the format
pub exact_dyadic : (f : Format) (p l : ℕ) → p < 2 ^ prec f → l ≤ low f → Exact f p (2 ^ l)
exact_dyadic f p l h k = round_value f false p l h k p (2 ^ l) (pow_pos l) refl

-- ---- operations: x is a / c or less in size and y is b / d or less, and the result p / q or less
module _ (f : Format) (a c b d p q : ℕ) (C : 0 < c) (D : 0 < d) (Q : 0 < q) (v : Exact f p q) where
  pub mul_bounded : (x y : Float) → a * b * q ≤ p * (c * d) → Bounded x a c → Bounded y b d → Bounded (mul f x y) p q
  unfolding mul
  mul_bounded nan y h u w = u
  mul_bounded (inf s) y h u w = absurd u
  mul_bounded (fin s m e) nan h u w = w
  mul_bounded (fin s m e) (inf t) h u w = absurd w
  mul_bounded (fin s m e) (fin t n g) h u w =
      let M = m * up e in
      let N = n * up g in
      let both : M * N * (c * d) ≤ a * b * (down e * down g) =
      le_trans (le_of_eq (mul-mul-mul_comm M N c d)) (le_trans (mul-le-mul u w) (le_of_eq (mul-mul-mul_comm a (down e) b (down g)))) in
      round_bounded f (unlike s t) (M * N) (down e * down g) p q (mul-pos (down_pos e) (down_pos g)) Q v (through (M * N) (a * b) p (down e * down g) (c * d) q (mul-pos C D) both h)

  -- A / E ≤ a / c and B / E ≤ b / d
  sum_bounded : (s t : Bool) (A B E : ℕ) → 0 < E → (a * d + b * c) * q ≤ p * (c * d) → A * c ≤ a * E → B * d ≤ b * E → Bounded (sum f s A t B E) p q
  unfolding sum
  sum_bounded s t A B E P h u w = pick (beq s t) (ltb A B)
    where
      added : (A + B) * (c * d) ≤ (a * d + b * c) * E
      added =
          le_trans (le_of_eq (parts A B c d))
          (le_trans (sums (A * c * d) (a * E * d) (B * d * c) (b * E * c) (mul-le-mul_right d u) (mul-le-mul_right c w)) (le_of_eq (turned a b c d E)))
        where
          parts : (A B c d : ℕ) → (A + B) * (c * d) ≡ A * c * d + B * d * c
          parts A B c d = omega arith

          sums : (i j k l : ℕ) → i ≤ j → k ≤ l → i + k ≤ j + l
          sums i j k l x y = omega arith

          turned : (a b c d E : ℕ) → a * E * d + b * E * c ≡ (a * d + b * c) * E
          turned a b c d E = omega arith

      all : (A + B) * q ≤ p * E
      all = through (A + B) (a * d + b * c) p E (c * d) q (mul-pos C D) added h

      part : (X : ℕ) → X ≤ A + B → X * q ≤ p * E
      part X l = le_trans (mul-le-mul_right q l) all

      pick : (x y : Bool) → Bounded (cond x (round f s (A + B) E) (cond y (round f t (B - A) E) (round f (s && ltb B A) (A - B) E))) p q
      pick true y = round_bounded f s (A + B) E p q P Q v all
      pick false true = round_bounded f t (B - A) E p q P Q v (part (B - A) (omega arith))
      pick false false = round_bounded f (s && ltb B A) (A - B) E p q P Q v (part (A - B) (omega arith))

  pub add_bounded : (x y : Float) → (a * d + b * c) * q ≤ p * (c * d) → Bounded x a c → Bounded y b d → Bounded (add f x y) p q
  unfolding add
  add_bounded nan y h u w = u
  add_bounded (inf s) nan h u w = u
  add_bounded (inf s) (inf t) h u w = absurd u
  add_bounded (inf s) (fin t n g) h u w = u
  add_bounded (fin s m e) nan h u w = w
  add_bounded (fin s m e) (inf t) h u w = w
  add_bounded (fin s m e) (fin t n g) h u w =
      sum_bounded s t (m * up e * down g) (n * up g * down e) (down e * down g) (mul-pos (down_pos e) (down_pos g)) h
      (le_trans (le_of_eq (mul_right_comm (m * up e) (down g) c)) (le_trans (mul-le-mul_right (down g) u) (le_of_eq (mul_assoc a (down e) (down g)))))
      (le_trans (le_of_eq (mul_right_comm (n * up g) (down e) d))
      (le_trans (mul-le-mul_right (down e) w) (le_of_eq (mul_assoc b (down g) (down e) ∙ ap (λ (x : ℕ). b * x) (mul_comm (down g) (down e))))))

  pub sub_bounded : (x y : Float) → (a * d + b * c) * q ≤ p * (c * d) → Bounded x a c → Bounded y b d → Bounded (sub f x y) p q
  unfolding sub
  sub_bounded x y h u w = add_bounded x (neg y) h u (neg_bounded y b d w)

  -- the quotient by a y that is b / d or more in size
  pub div_bounded : (x y : Float) (t : Bool) → 0 < b → a * d * q ≤ p * (b * c) → Bounded x a c → Beyond t y b d → Bounded (div f x y) p q
  unfolding div
  div_bounded nan y t B h u w = u
  div_bounded (inf s) y t B h u w = absurd u
  div_bounded (fin s m e) nan t B h u w = w
  div_bounded (fin s m e) (inf z) t B h u w = subst (λ (n : ℕ). n ≤ p * 1) (sym (zero-mul q)) zero-le
  div_bounded (fin s m e) (fin z n g) t B h u w =
      let M = m * up e in
      let N = n * up g in
      let N_pos : 0 < N = first N d (lt_of_lt_of_le (mul-pos B (down_pos g)) w.1) in
      let both : M * down g * (b * c) ≤ a * d * (N * down e) = le_trans (le_of_eq (mix M (down g) b c)) (le_trans (mul-le-mul u w.1) (le_of_eq (mix' a (down e) N d))) in
      subst (λ (x : Float). Bounded x p q) (sym (div_value f (fin s m e) (fin z n g) s z M (down e) N (down g) (down_pos e) N_pos (down_pos g) (refl, refl) (refl, refl)))
      (round_bounded f (unlike s z) (M * down g) (N * down e) p q (mul-pos N_pos (down_pos e)) Q v (through (M * down g) (a * d) p (N * down e) (b * c) q (mul-pos B C) both h))
    where
      first : (N d : ℕ) → 0 < N * d → 0 < N
      first zero d h = absurd (lt_irrefl 0 (subst (λ (x : ℕ). 0 < x) (zero-mul d) h))
      first (suc N) d h = zero-lt-suc N

      mix : (M g b c : ℕ) → M * g * (b * c) ≡ M * c * (b * g)
      mix M g b c = omega arith

      mix' : (a e N d : ℕ) → a * e * (N * d) ≡ a * d * (N * e)
      mix' a e N d = omega arith

  -- the difference of values of one sign, neither of which is larger by more than p / q
  pub sub_close : (x y : Float) (s : Bool) → HasValue x s a c → HasValue y s b d → a * d * q ≤ b * c * q + p * (c * d) → b * c * q ≤ a * d * q + p * (c * d) → Bounded (sub f x y) p q
  unfolding sub sum
  sub_close x y s i j h k =
      subst (λ (z : Float). Bounded z p q) (sym (add_value f x (neg y) s (not s) a c b d C D i (neg_value y s b d j))) (go s)
    where
      E : ℕ
      E = c * d

      less : (A B : ℕ) → A * q ≤ B * q + p * (c * d) → (A - B) * q ≤ p * (c * d)
      less A B l = subst (λ (n : ℕ). n ≤ p * (c * d)) (sym (sub_mul A B q)) (omega arith)

      pick : (t z w : Bool) → Bounded (cond t (round f z (b * c - a * d) (c * d)) (round f w (a * d - b * c) (c * d))) p q
      pick true z w = round_bounded f z (b * c - a * d) (c * d) p q (mul-pos C D) Q v (less (b * c) (a * d) k)
      pick false z w = round_bounded f w (a * d - b * c) (c * d) p q (mul-pos C D) Q v (less (a * d) (b * c) h)

      go : (s : Bool) → Bounded (sum f s (a * d) (not s) (b * c) (c * d)) p q
      go true = pick (ltb (a * d) (b * c)) false (true && ltb (b * c) (a * d))
      go false = pick (ltb (a * d) (b * c)) true (false && ltb (b * c) (a * d))

  -- ---- the sum of an x that is a / c or less in size and a y that is b / d or more, which is larger by p / q at least
  module _ (P : 0 < p) (h : p * (c * d) + a * d * q ≤ b * c * q) where
    -- A / E ≤ a / c and b / d ≤ B / E
    room : (A B E : ℕ) → A * c ≤ a * E → b * E ≤ B * d → p * E + A * q ≤ B * q
    room A B E u w = le_of_mul-le-mul_right wide (mul-pos C D)
      where
        one : (p A E c d q : ℕ) → (p * E + A * q) * (c * d) ≡ p * (c * d) * E + A * c * (d * q)
        one p A E c d q = omega arith

        two : (X a E d q : ℕ) → X * E + a * E * (d * q) ≡ (X + a * d * q) * E
        two X a E d q = omega arith

        three : (b c q E : ℕ) → b * c * q * E ≡ b * E * (c * q)
        three b c q E = omega arith

        four : (B d c q : ℕ) → B * d * (c * q) ≡ B * q * (c * d)
        four B d c q = omega arith

        more : (i j k : ℕ) → j ≤ k → i + j ≤ i + k
        more i j k l = omega arith

        wide : (p * E + A * q) * (c * d) ≤ B * q * (c * d)
        wide =
            le_trans (le_of_eq (one p A E c d q))
            (le_trans (more (p * (c * d) * E) (A * c * (d * q)) (a * E * (d * q)) (mul-le-mul_right (d * q) u))
            (le_trans (le_of_eq (two (p * (c * d)) a E d q))
            (le_trans (mul-le-mul_right E h)
            (le_trans (le_of_eq (three b c q E)) (le_trans (mul-le-mul_right (c * q) w) (le_of_eq (four B d c q)))))))

    gap : (m n : ℕ) (e g : ℤ) → m * up e * c ≤ a * down e → b * down g ≤ n * up g * d
        → p * (down e * down g) + m * up e * down g * q ≤ n * up g * down e * q
    gap m n e g u w = room (m * up e * down g) (n * up g * down e) (down e * down g)
        (le_trans (le_of_eq (mul_right_comm (m * up e) (down g) c)) (le_trans (mul-le-mul_right (down g) u) (le_of_eq (mul_assoc a (down e) (down g)))))
        (le_trans (le_of_eq (ap (λ (x : ℕ). b * x) (mul_comm (down e) (down g)) ∙ sym (mul_assoc b (down g) (down e))))
        (le_trans (mul-le-mul_right (down e) w) (le_of_eq (mul_right_comm (n * up g) d (down e)))))

    module _ (A B E : ℕ) (EP : 0 < E) (r : p * E + A * q ≤ B * q) where
      smaller : A < B
      smaller = lt_of_mul-lt-mul_right q (omega (arith, mul-pos P EP))

      apart : p * E ≤ (B - A) * q
      apart = subst (λ (n : ℕ). p * E ≤ n) (sym (sub_mul B A q)) (omega arith)

      together : p * E ≤ (B + A) * q
      together = le_trans (omega arith) (mul-le-mul_right q (le_add B A))
        where
          le_add : (B A : ℕ) → B ≤ B + A
          le_add B A = omega arith

      same : (t : Bool) → Beyond t (round f t (B + A) E) p q
      same t = round_beyond f t (B + A) E p q EP Q v P together

      other : (t : Bool) → Beyond t (round f t (B - A) E) p q
      other t = round_beyond f t (B - A) E p q EP Q v P apart

      sum_right : (s t : Bool) → Beyond t (sum f s A t B E) p q
      unfolding sum
      sum_right true true = subst (λ (n : ℕ). Beyond true (round f true n E) p q) (add_comm B A) (same true)
      sum_right false false = subst (λ (n : ℕ). Beyond false (round f false n E) p q) (add_comm B A) (same false)
      sum_right true false = subst (λ (b : Bool). Beyond false (cond b (round f false (B - A) E) (round f (true && ltb B A) (A - B) E)) p q) (sym (lt-ltb A B smaller)) (other false)
      sum_right false true = subst (λ (b : Bool). Beyond true (cond b (round f true (B - A) E) (round f (false && ltb B A) (A - B) E)) p q) (sym (lt-ltb A B smaller)) (other true)

      sum_left : (s t : Bool) → Beyond t (sum f t B s A E) p q
      unfolding sum
      sum_left true true = same true
      sum_left false false = same false
      sum_left true false = subst (λ (b : Bool). Beyond false (cond b (round f true (A - B) E) (round f false (B - A) E)) p q) (sym (le-ltb B A (le_of_lt smaller))) (other false)
      sum_left false true =
          subst (λ (b : Bool). Beyond true (cond b (round f false (A - B) E) (round f (ltb A B) (B - A) E)) p q) (sym (le-ltb B A (le_of_lt smaller)))
          (subst (λ (b : Bool). Beyond true (round f b (B - A) E) p q) (sym (lt-ltb A B smaller)) (other true))

    pub add_beyond : (x y : Float) (t : Bool) → Bounded x a c → Beyond t y b d → Beyond t (add f x y) p q
    unfolding add
    add_beyond nan y t u w = absurd u
    add_beyond (inf s) y t u w = absurd u
    add_beyond (fin s m e) nan t u w = w
    add_beyond (fin s m e) (inf z) t u w = w
    add_beyond (fin s m e) (fin z n g) t u w =
        subst (λ (t : Bool). Beyond t (sum f s (m * up e * down g) z (n * up g * down e) (down e * down g)) p q) w.0
        (sum_right (m * up e * down g) (n * up g * down e) (down e * down g) (mul-pos (down_pos e) (down_pos g)) (gap m n e g u w.1) s z)

    -- the same the other way round
    pub beyond_add : (y x : Float) (t : Bool) → Beyond t y b d → Bounded x a c → Beyond t (add f y x) p q
    unfolding add
    beyond_add nan x t w u = w
    beyond_add (inf z) nan t w u = absurd u
    beyond_add (inf z) (inf s) t w u = absurd u
    beyond_add (inf z) (fin s m e) t w u = w
    beyond_add (fin z n g) nan t w u = u
    beyond_add (fin z n g) (inf s) t w u = absurd u
    beyond_add (fin z n g) (fin s m e) t w u =
        subst (λ (E : ℕ). Beyond t (sum f z (n * up g * down e) s (m * up e * down g) E) p q) (mul_comm (down e) (down g))
        (subst (λ (t : Bool). Beyond t (sum f z (n * up g * down e) s (m * up e * down g) (down e * down g)) p q) w.0
        (sum_left (m * up e * down g) (n * up g * down e) (down e * down g) (mul-pos (down_pos e) (down_pos g)) (gap m n e g u w.1) s z))

-- ---- by value: a product that is p / q or more in size
pub mul_beyond : (f : Format) (x y : Float) (s t : Bool) (a c b d p q : ℕ) → 0 < c → 0 < d → 0 < q → 0 < p → Exact f p q
    → HasValue x s a c → HasValue y t b d → p * (c * d) ≤ a * b * q → Beyond (unlike s t) (mul f x y) p q
mul_beyond f x y s t a c b d p q C D Q P v i j h =
    subst (λ (z : Float). Beyond (unlike s t) z p q) (sym (mul_value f x y s t a c b d C D i j)) (round_beyond f (unlike s t) (a * b) (c * d) p q (mul-pos C D) Q v P h)

-- ---- with a sign: at most p / q, as all that is below zero is
minus_at_most : (f : Format) (a c p q : ℕ) → AtMost (round f true a c) p q
minus_at_most f a c p q = subst (λ (z : Float). AtMost z p q) (sym (round_is f true a c)) (go _ _)
  where
    go : (k l : ℕ) → AtMost (units f true k l) p q
    go k l = units_minus f k l p q

module _ (f : Format) (x y : Float) (a c b d p q : ℕ) (C : 0 < c) (D : 0 < d) (Q : 0 < q) (v : Exact f p q) where
  -- a / c less b / d is at most p / q
  pub sub_at_most : HasValue x false a c → HasValue y false b d → a * d * q ≤ b * c * q + p * (c * d) → AtMost (sub f x y) p q
  unfolding sub sum
  sub_at_most i j h = subst (λ (z : Float). AtMost z p q) (sym (add_value f x (neg y) false true a c b d C D i (neg_value y false b d j))) (pick (ltb (a * d) (b * c)))
    where
      less : (a * d - b * c) * q ≤ p * (c * d)
      less = subst (λ (n : ℕ). n ≤ p * (c * d)) (sym (sub_mul (a * d) (b * c) q)) (omega arith)

      pick : (t : Bool) → AtMost (cond t (round f true (b * c - a * d) (c * d)) (round f (false && ltb (b * c) (a * d)) (a * d - b * c) (c * d))) p q
      pick true = minus_at_most f (b * c - a * d) (c * d) p q
      pick false = le_at_most (round f false (a * d - b * c) (c * d)) (round f false p q) p q v (round_mono f (a * d - b * c) (c * d) p q (mul-pos C D) Q less)
