-- A / C to the nearest whole number, a tie to the even one, is A / C cut or one more; and what a comparison of it with A / C then says of A / C cut, raised, and
-- rounded with a half raised. Assumes nothing.
use mathlib.Core.Path.{◌≡◌, refl, sym, ap, ◌∙◌}
use mathlib.Core.Logic.{inl, inr}
use Prim.Native.Nat.{ℕ, ◌+◌, ◌-◌, ◌*◌, ◌/◌, ◌%◌, ◌≤◌, ◌<◌, compare, Ordering}
use native.Mathlib.Nat.{add-mul, one-mul, mul_assoc, mul_right_comm, div-add-mod', div-eq_of_lt-le, mod-lt, eq-zero-or-pos, div-one, mod-one, div-lt_iff_lt-mul, add-mul-div_right}
use native.Mathlib.Nat.{add-mul-mod_self_right}
use native.Mathlib.Omega.{arith}
use lib.Ieee.{nearest}
use lib.Ieee.Nearest.{closest}
use Rattle.ieee.specs.Whole.{raised, half_up}
use Rattle.ieee.proofs.Rounding.{Cmp, cmp, compare_lt}

-- a whole number is its own nearest
pub closest_one : (k : ℕ) → closest k 1 ≡ k
closest_one k = (λ i. nearest (div-one k i) (compare (mod-one k i * 2) 1)) ∙ ap (nearest k) (compare_lt 0 1 (omega arith))

pub raised_one : (k : ℕ) → raised k 1 ≡ k
raised_one k = omega arith

pub half_one : (k : ℕ) → half_up k 1 ≡ k
half_one k = omega arith

-- an even multiple of the divisor stays as it is
nearest_add : (k h : ℕ) (o : Ordering) → h % 2 ≡ 0 → nearest (k + h) o ≡ nearest k o + h
nearest_add k h Ordering.lt e = refl
nearest_add k h Ordering.eq e = omega arith
nearest_add k h Ordering.gt e = omega arith

pub closest_add : (a c h : ℕ) → 0 < c → h % 2 ≡ 0 → closest (a + h * c) c ≡ closest a c + h
closest_add a c h P e =
    (λ i. nearest (add-mul-div_right a h P i) (compare (add-mul-mod_self_right a h c i * 2) c)) ∙ nearest_add (a / c) h (compare (a % c * 2) c) e

module _ (A C : ℕ) (P : 0 < C) where
  q : ℕ
  q = A / C

  -- A is q * C and a rest r below C
  r : ℕ
  r = A % C

  split : A ≡ q * C + r
  unfolding q r
  split = sym (div-add-mod' A C)

  rest : r < C
  unfolding r
  rest = mod-lt A P

  -- multiples of C as `omega` reads them
  next : (n : ℕ) → (n + 1) * C ≡ n * C + C
  next n = add-mul n 1 C ∙ ap (λ (x : ℕ). n * C + x) (one-mul C)

  twice : (n : ℕ) → n * 2 * C ≡ n * C * 2
  twice n = mul_right_comm n 2 C

  double : (n : ℕ) → n * (C * 2) ≡ n * C * 2
  double n = sym (mul_assoc n C 2)

  data Near (n : ℕ) : Type 0 where
    at : n ≡ q → r * 2 ≤ C → Near n
    past : n ≡ q + 1 → C ≤ r * 2 → Near n

  near : Near (closest A C)
  unfolding q r
  near = go (A / C) (compare (A % C * 2) C) (cmp (A % C * 2) C) refl
    where
      go : (k : ℕ) (o : Ordering) → Cmp o (A % C * 2) C → k ≡ A / C → Near (nearest k o)
      go k Ordering.lt h e = at e (omega arith)
      go k Ordering.eq h e = elim (eq-zero-or-pos (k % 2)) [ inl z ↦ at (omega arith) (omega arith) | inr p ↦ past (omega arith) (omega arith) ]
      go k Ordering.gt h e = past (omega arith) (omega arith)

  -- the three that are wanted, by the rest
  raise_more : 0 < r → q + 1 ≡ raised A C
  raise_more h = sym (div-eq_of_lt-le C (omega (arith, split, rest, next q)) (omega (arith, split, rest, next q, next (q + 1))))

  raise_none : r ≡ 0 → q ≡ raised A C
  raise_none h = sym (div-eq_of_lt-le C (omega (arith, split, P)) (omega (arith, split, P, next q)))

  half_more : C ≤ r * 2 → q + 1 ≡ half_up A C
  half_more h = sym (div-eq_of_lt-le (C * 2) (omega (arith, split, rest, double (q + 1), next q)) (omega (arith, split, rest, double (q + 1 + 1), next q, next (q + 1))))

  half_less : r * 2 < C → q ≡ half_up A C
  half_less h = sym (div-eq_of_lt-le (C * 2) (omega (arith, split, double q)) (omega (arith, split, double (q + 1), next q)))

  -- at q or past it, a multiple of C to compare with
  at_product : (n : ℕ) → n ≡ q → n * C ≡ q * C
  at_product n e = ap (λ (k : ℕ). k * C) e

  past_product : (n : ℕ) → n ≡ q + 1 → n * C ≡ q * C + C
  past_product n e = ap (λ (k : ℕ). k * C) e ∙ next q

  -- ---- n is the nearest: from a comparison to the number that is wanted
  cut_less' : (n : ℕ) → Near n → A < n * C → n - 1 ≡ q
  cut_less' n (at e h) l = absurd (let b : ⊥ = omega (arith, split, at_product n e) in b)
  cut_less' n (past e h) l = omega arith

  cut_same' : (n : ℕ) → Near n → n * C ≤ A → n ≡ q
  cut_same' n (at e h) l = e
  cut_same' n (past e h) l = absurd (let b : ⊥ = omega (arith, split, rest, past_product n e) in b)

  raised_more' : (n : ℕ) → Near n → n * C < A → n + 1 ≡ raised A C
  raised_more' n (at e h) l = ap (λ (k : ℕ). k + 1) e ∙ raise_more (omega (arith, split, at_product n e))
  raised_more' n (past e h) l = absurd (let b : ⊥ = omega (arith, split, rest, past_product n e) in b)

  raised_same' : (n : ℕ) → Near n → A ≤ n * C → n ≡ raised A C
  raised_same' n (at e h) l = e ∙ raise_none (omega (arith, split, at_product n e))
  raised_same' n (past e h) l = e ∙ raise_more (omega (arith, P))

  half_up' : (n : ℕ) → Near n → (n * 2 + 1) * C ≤ A * 2 → n + 1 ≡ half_up A C
  half_up' n (at e h) l = ap (λ (k : ℕ). k + 1) e ∙ half_more (omega (arith, split, at_product n e, next (n * 2), twice n))
  half_up' n (past e h) l = absurd (let b : ⊥ = omega (arith, split, rest, past_product n e, next (n * 2), twice n) in b)

  half_same' : (n : ℕ) → Near n → A * 2 < (n * 2 + 1) * C → n ≡ half_up A C
  half_same' n (at e h) l = e ∙ half_less (omega (arith, split, at_product n e, next (n * 2), twice n))
  half_same' n (past e h) l = e ∙ half_more h

  pub cut_less : A < closest A C * C → closest A C - 1 ≡ A / C
  unfolding q
  cut_less = cut_less' (closest A C) near

  pub cut_same : closest A C * C ≤ A → closest A C ≡ A / C
  unfolding q
  cut_same = cut_same' (closest A C) near

  pub raised_more : closest A C * C < A → closest A C + 1 ≡ raised A C
  raised_more = raised_more' (closest A C) near

  pub raised_same : A ≤ closest A C * C → closest A C ≡ raised A C
  raised_same = raised_same' (closest A C) near

  pub half_up_lem : (closest A C * 2 + 1) * C ≤ A * 2 → closest A C + 1 ≡ half_up A C
  half_up_lem = half_up' (closest A C) near

  pub half_same : A * 2 < (closest A C * 2 + 1) * C → closest A C ≡ half_up A C
  half_same = half_same' (closest A C) near

  -- a quotient below h is at most h once it is rounded
  pub closest_below : (h : ℕ) → A < h * C → closest A C ≤ h
  closest_below h l = below (closest A C) near
    where
      under : q < h
      under = unfold q in (div-lt_iff_lt-mul P).1 l

      below : (n : ℕ) → Near n → n ≤ h
      below n (at e g) = omega (arith, under)
      below n (past e g) = omega (arith, under)
