-- A float and a bound that is a fraction: what a value or a comparison says of it, and what it says of a further comparison. Assumes nothing.
use mathlib.Core.Path.{◌≡◌, refl, sym, ap, ◌∙◌, subst}
use mathlib.Core.Logic.{◌⊎◌, inl, inr}
use Prim.Native.Nat.{ℕ, zero, suc, ◌+◌, ◌*◌, ◌≤◌, ◌<◌}
use native.Mathlib.Nat.{le_trans, le_of_eq, le_of_lt, lt_of_lt_of_le, lt_of_le_of_lt, zero-lt-suc, mul_right_comm, mul-mul-mul_comm, mul-pos, mul-le-mul_right, mul-lt-mul_of_pos_right}
use native.Mathlib.Nat.{lt_of_mul-lt-mul_right, le_of_mul-le-mul_right}
use native.Mathlib.Omega.{arith}
use mathlib.Core.Bool.{Bool, true, false, ◌&&◌, ◌||◌, true≢false, false≢true}
use lib.Dec.{T, ltb, eqb, ltb→lt, eqb→eq}
use borrow.Author.Tests.{lt-ltb, le-ltb, ltb-true, ltb-false}
use lib.Ieee.{Float, nan, inf, fin, up, down, le, lt}
use lib.Ieee.Fits.{down_pos}
use lib.Ieee.Exact.{HasValue}

-- x is a number that is at most b / d, as any below zero is
abbrev pub AtMost : Float → ℕ → ℕ → Type 0
AtMost nan b d = ⊥
AtMost (inf true) b d = Unit
AtMost (inf false) b d = ⊥
AtMost (fin true m e) b d = Unit
AtMost (fin false m e) b d = m * up e * d ≤ b * down e

-- x has a plus sign and is at least b / d
abbrev pub AtLeast : Float → ℕ → ℕ → Type 0
AtLeast nan b d = ⊥
AtLeast (inf true) b d = ⊥
AtLeast (inf false) b d = Unit
AtLeast (fin true m e) b d = ⊥
AtLeast (fin false m e) b d = b * down e ≤ m * up e * d

-- ---- from a value
pub value_at_most : (x : Float) (a c b d : ℕ) → 0 < c → HasValue x false a c → a * d ≤ b * c → AtMost x b d
value_at_most nan a c b d C v h = v
value_at_most (inf true) a c b d C v h = absurd v
value_at_most (inf false) a c b d C v h = v
value_at_most (fin true m e) a c b d C v h = tt
value_at_most (fin false m e) a c b d C v h = crossed (m * up e) (down e) a c b d C v.1 h
  where
    crossed : (M D a c b d : ℕ) → 0 < c → M * c ≡ a * D → a * d ≤ b * c → M * d ≤ b * D
    crossed M D a c b d C e h =
        le_of_mul-le-mul_right (le_trans (le_of_eq (mul_right_comm M d c ∙ ap (λ (x : ℕ). x * d) e ∙ mul_right_comm a D d)) (le_trans (mul-le-mul_right D h) (le_of_eq (mul_right_comm b c D)))) C

-- ---- from a comparison with a y that is b / d
or_le : (a b : ℕ) → T (ltb a b || (eqb a b && true)) → a ≤ b
or_le a b t = go (ltb a b) (eqb a b) (ltb→lt a b) (eqb→eq a b) t
  where
    go : (x y : Bool) → (T x → a < b) → (T y → a ≡ b) → T (x || (y && true)) → a ≤ b
    go true y p q t = le_of_lt (p tt)
    go false true p q t = le_of_eq (q tt)
    go false false p q t = absurd t

-- M / D is at most N / E, which is b / d
below : (M D N E b d : ℕ) → 0 < E → M * E ≤ N * D → N * d ≡ b * E → M * d ≤ b * D
below M D N E b d P h e =
    le_of_mul-le-mul_right (le_trans (le_of_eq (mul_right_comm M d E)) (le_trans (mul-le-mul_right d h) (le_of_eq (mul_right_comm N D d ∙ ap (λ (x : ℕ). x * D) e ∙ mul_right_comm b E D)))) P

above : (M D N E b d : ℕ) → 0 < E → N * D ≤ M * E → N * d ≡ b * E → b * D ≤ M * d
above M D N E b d P h e =
    le_of_mul-le-mul_right (le_trans (le_of_eq (mul_right_comm b D E ∙ ap (λ (x : ℕ). x * D) (sym e) ∙ mul_right_comm N d D)) (le_trans (mul-le-mul_right d h) (le_of_eq (mul_right_comm M E d)))) P

pub le_at_most : (x y : Float) (b d : ℕ) → HasValue y false b d → T (le x y) → AtMost x b d
unfolding le
le_at_most nan y b d v t = t
le_at_most (inf true) y b d v t = tt
le_at_most (inf false) nan b d v t = v
le_at_most (inf false) (inf s) b d v t = v
le_at_most (inf false) (fin s n g) b d v t = t
le_at_most (fin true m e) y b d v t = tt
le_at_most (fin false m e) nan b d v t = absurd v
le_at_most (fin false m e) (inf s) b d v t = absurd v
le_at_most (fin false m e) (fin true n g) b d v t = absurd (true≢false v.0)
le_at_most (fin false m e) (fin false n g) b d v t = below (m * up e) (down e) (n * up g) (down g) b d (down_pos g) (or_le (m * up e * down g) (n * up g * down e) t) v.1

pub lt_at_most : (x y : Float) (b d : ℕ) → HasValue y false b d → lt x y ≡ true → AtMost x b d
unfolding lt
lt_at_most nan y b d v t = absurd (false≢true t)
lt_at_most (inf true) y b d v t = tt
lt_at_most (inf false) nan b d v t = v
lt_at_most (inf false) (inf s) b d v t = v
lt_at_most (inf false) (fin s n g) b d v t = absurd (false≢true t)
lt_at_most (fin true m e) y b d v t = tt
lt_at_most (fin false m e) nan b d v t = absurd v
lt_at_most (fin false m e) (inf s) b d v t = absurd v
lt_at_most (fin false m e) (fin true n g) b d v t = absurd (true≢false v.0)
lt_at_most (fin false m e) (fin false n g) b d v t = below (m * up e) (down e) (n * up g) (down g) b d (down_pos g) (le_of_lt (ltb-true (m * up e * down g) (n * up g * down e) t)) v.1

both_true : (p q : Bool) → T (p && q) → T q
both_true true q t = t
both_true false q t = absurd t

-- N / E is b / d, which is not 0
no_zero : (N D E b d : ℕ) → 0 < b → 0 < D → 0 < E → N * d ≡ b * E → N * D ≡ 0 → ⊥
no_zero zero D E b d B P Q e z = let h : 0 < b * E = mul-pos B Q in omega arith
no_zero (suc N) D E b d B P Q e z = let h : 0 < suc N * D = mul-pos (zero-lt-suc N) P in omega arith

pub le_at_least : (x y : Float) (b d : ℕ) → 0 < b → HasValue y false b d → T (le y x) → AtLeast x b d
unfolding le
le_at_least x nan b d B v t = absurd v
le_at_least x (inf s) b d B v t = absurd v
le_at_least x (fin true n g) b d B v t = absurd (true≢false v.0)
le_at_least nan (fin false n g) b d B v t = t
le_at_least (inf true) (fin false n g) b d B v t = t
le_at_least (inf false) (fin false n g) b d B v t = tt
le_at_least (fin true m e) (fin false n g) b d B v t =
    let N = n * up g * down e in
    no_zero (n * up g) (down e) (down g) b d B (down_pos e) (down_pos g) v.1 (eqb→eq N 0 (both_true (eqb N (m * up e * down g)) (eqb N 0) t))
le_at_least (fin false m e) (fin false n g) b d B v t = above (m * up e) (down e) (n * up g) (down g) b d (down_pos g) (or_le (n * up g * down e) (m * up e * down g) t) v.1

-- where a comparison fails, x may also be a NaN
pub not_lt_at_least : (x y : Float) (b d : ℕ) → 0 < b → HasValue y false b d → lt x y ≡ false → (x ≡ nan) ⊎ AtLeast x b d
unfolding lt
not_lt_at_least x nan b d B v t = absurd v
not_lt_at_least x (inf s) b d B v t = absurd v
not_lt_at_least x (fin true n g) b d B v t = absurd (true≢false v.0)
not_lt_at_least nan (fin false n g) b d B v t = inl refl
not_lt_at_least (inf true) (fin false n g) b d B v t = absurd (true≢false t)
not_lt_at_least (inf false) (fin false n g) b d B v t = inr tt
not_lt_at_least (fin true m e) (fin false n g) b d B v t =
    let M = m * up e * down g in
    let N = n * up g * down e in
    absurd (no_zero (n * up g) (down e) (down g) b d B (down_pos e) (down_pos g) v.1 (none M N (ltb-false 0 (M + N) t)))
  where
    none : (a b : ℕ) → a + b ≤ 0 → b ≡ 0
    none a b h = omega arith
not_lt_at_least (fin false m e) (fin false n g) b d B v t = inr (above (m * up e) (down e) (n * up g) (down g) b d (down_pos g) (ltb-false (m * up e * down g) (n * up g * down e) t) v.1)

pub not_lt_at_most : (x y : Float) (b d : ℕ) → HasValue y false b d → lt y x ≡ false → (x ≡ nan) ⊎ AtMost x b d
unfolding lt
not_lt_at_most x nan b d v t = absurd v
not_lt_at_most x (inf s) b d v t = absurd v
not_lt_at_most x (fin true n g) b d v t = absurd (true≢false v.0)
not_lt_at_most nan (fin false n g) b d v t = inl refl
not_lt_at_most (inf true) (fin false n g) b d v t = inr tt
not_lt_at_most (inf false) (fin false n g) b d v t = absurd (true≢false t)
not_lt_at_most (fin true m e) (fin false n g) b d v t = inr tt
not_lt_at_most (fin false m e) (fin false n g) b d v t = inr (below (m * up e) (down e) (n * up g) (down g) b d (down_pos g) (ltb-false (n * up g * down e) (m * up e * down g) t) v.1)

-- ---- to a comparison with a z that is p / q
-- b / d is below p / q, which is N / E
positive : (A N E D b d p q : ℕ) → 0 < E → 0 < D → N * q ≡ p * E → b * q < p * d → 0 < A + N * D
positive A (suc N) E D b d p q P R e h = let k : 0 < suc N * D = mul-pos (zero-lt-suc N) R in omega arith
positive A zero E D b d zero q P R e h = absurd (not_lt_zero (b * q) d h)
  where
    not_lt_zero : (k d : ℕ) → k < 0 * d → ⊥
    not_lt_zero k d h = omega arith
positive A zero E D b d (suc p) q P R e h = let k : 0 < suc p * E = mul-pos (zero-lt-suc p) P in omega arith

-- M / D is at most b / d, which is below p / q, which is N / E
under : (M D N E b d p q : ℕ) → 0 < D → 0 < E → M * d ≤ b * D → N * q ≡ p * E → b * q < p * d → M * E < N * D
under M D N E b d p q R S u e h =
    lt_of_mul-lt-mul_right (d * q)
    (lt_of_le_of_lt (le_trans (le_of_eq (mul-mul-mul_comm M E d q)) (mul-le-mul_right (E * q) u))
    (lt_of_lt_of_le (subst (λ (x : ℕ). x < p * d * (D * E)) (swap b q D E) (mul-lt-mul_of_pos_right h (mul-pos R S)))
    (le_of_eq (turn p d D E ∙ ap (λ (x : ℕ). x * (D * d)) (sym e) ∙ turn' N q D d))))
  where
    swap : (b q D E : ℕ) → b * q * (D * E) ≡ b * D * (E * q)
    swap b q D E = omega arith

    turn : (p d D E : ℕ) → p * d * (D * E) ≡ p * E * (D * d)
    turn p d D E = omega arith

    turn' : (N q D d : ℕ) → N * q * (D * d) ≡ N * D * (d * q)
    turn' N q D d = omega arith

pub at_most_lt : (x z : Float) (b d p q : ℕ) → HasValue z false p q → b * q < p * d → AtMost x b d → lt x z ≡ true
unfolding lt
at_most_lt x nan b d p q v h u = absurd v
at_most_lt x (inf s) b d p q v h u = absurd v
at_most_lt x (fin true n g) b d p q v h u = absurd (true≢false v.0)
at_most_lt nan (fin false n g) b d p q v h u = absurd u
at_most_lt (inf true) (fin false n g) b d p q v h u = refl
at_most_lt (inf false) (fin false n g) b d p q v h u = absurd u
at_most_lt (fin true m e) (fin false n g) b d p q v h u =
    let M = m * up e * down g in
    lt-ltb 0 (M + n * up g * down e) (positive M (n * up g) (down g) (down e) b d p q (down_pos g) (down_pos e) v.1 h)
at_most_lt (fin false m e) (fin false n g) b d p q v h u = lt-ltb (m * up e * down g) (n * up g * down e) (under (m * up e) (down e) (n * up g) (down g) b d p q (down_pos e) (down_pos g) u v.1 h)

-- M / D is at least b / d, which is N / E
over : (M D N E b d : ℕ) → 0 < d → b * D ≤ M * d → N * d ≡ b * E → N * D ≤ M * E
over M D N E b d P u e =
    le_of_mul-le-mul_right (le_trans (le_of_eq (mul_right_comm N D d ∙ ap (λ (x : ℕ). x * D) e ∙ mul_right_comm b E D)) (le_trans (mul-le-mul_right E u) (le_of_eq (mul_right_comm M d E)))) P

pub at_least_lt : (x z : Float) (b d : ℕ) → 0 < d → HasValue z false b d → AtLeast x b d → lt x z ≡ false
unfolding lt
at_least_lt x nan b d D v u = absurd v
at_least_lt x (inf s) b d D v u = absurd v
at_least_lt x (fin true n g) b d D v u = absurd (true≢false v.0)
at_least_lt nan (fin false n g) b d D v u = absurd u
at_least_lt (inf true) (fin false n g) b d D v u = absurd u
at_least_lt (inf false) (fin false n g) b d D v u = refl
at_least_lt (fin true m e) (fin false n g) b d D v u = absurd u
at_least_lt (fin false m e) (fin false n g) b d D v u = le-ltb (m * up e * down g) (n * up g * down e) (over (m * up e) (down e) (n * up g) (down g) b d D u v.1)
