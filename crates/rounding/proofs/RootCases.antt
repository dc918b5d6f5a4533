-- The root of an `f32` by the tests and the fields of its pattern. Assumes nothing.
use Rattle.std.proofs.Common.{◌≡◌, ℕ, zero, suc, ◌+◌, ◌-◌, ◌*◌, ◌/◌, ◌^◌, ◌<◌, Bool, true, false, not, ◌||◌, T, eqb, ltb, ℤ, pos, sym, refl, ap, ◌∙◌, subst, true≢false, lt_of_lt_of_le}
use Rattle.std.proofs.Common.{le-add_right, lt_irrefl, zero-lt-suc, mul_assoc, mul_comm, lt_of_mul-lt-mul_right, mul-lt-mul_of_pos_right, mul-pos, zero-mul, mul_right_comm, le-add_left}
use Rattle.std.proofs.Common.{arith, eqb→eq, lt→ltb, pow_pos, ltb-true}
use Prim.Native.Nat.{compare, Ordering}
use native.Mathlib.Nat.{eq_of_mul-eq-mul_right}
use mathlib.Core.Bool.{beq, false≢true}
use lib.Ieee.{Float, nan, inf, fin, Format, binary32, prec, low, up, down, size, nearest, units, fits, is_nan, lt, eq, level}
use lib.Ieee.Fits.{up_pos, down_pos, and_l}
use lib.Ieee.Exact.{HasValue}
use lib.Ieee.Nearest.{div_same}
use Rattle.ieee.specs.Root.{root, root_round, sqrt_of}
use Rattle.ieee.proofs.Rounding.{Cmp, cmp, compare_lt, compare_eq, compare_gt}
use Rattle.ieee.proofs.Fields.{the_sign, the_field, the_digits, is_inf, low_value, mid_value}

-- ---- equal fractions have the same rounded root
compare_same : (X Y X' Y' b d : ℕ) → 0 < b → 0 < d → X * d ≡ X' * b → Y * d ≡ Y' * b → compare X Y ≡ compare X' Y'
compare_same X Y X' Y' b d B D p q = go (compare X Y) (cmp X Y)
  where
    less : (X Y X' Y' : ℕ) → X * d ≡ X' * b → Y * d ≡ Y' * b → X < Y → X' < Y'
    less X Y X' Y' p q h = lt_of_mul-lt-mul_right b (subst (λ (k : ℕ). k < Y' * b) p (subst (λ (k : ℕ). X * d < k) q (mul-lt-mul_of_pos_right h D)))

    go : (o : Ordering) → Cmp o X Y → o ≡ compare X' Y'
    go Ordering.lt h = sym (compare_lt X' Y' (less X Y X' Y' p q h))
    go Ordering.eq h = sym (compare_eq X' Y' (eq_of_mul-eq-mul_right b B X' Y' (sym p ∙ ap (λ (k : ℕ). k * d) h ∙ q)))
    go Ordering.gt h = sym (compare_gt X' Y' (less Y X Y' X' q p h))

abbrev rounds : (f : Format) (n u q k : ℕ) → Float
rounds f n u q k = units f false (nearest q (compare (n * 4) ((q * 2 + 1) * (q * 2 + 1) * u))) k

root_round_is : (f : Format) (num den : ℕ)
    → root_round f num den ≡ (let n = num * 2 ^ (low f + low f) in let k = size (root (n / den)) - prec f in rounds f n (den * 2 ^ (k + k)) (root (n / (den * 2 ^ (k + k)))) k)
unfolding root_round
root_round_is f num den = refl

pub root_same : (f : Format) (a b c d : ℕ) → 0 < b → 0 < d → a * d ≡ c * b → root_round f a b ≡ root_round f c d
root_same f a b c d B D e =
    let l = 2 ^ (low f + low f) in
    let x : a * l * d ≡ c * l * b = mul_right_comm a l d ∙ ap (λ (z : ℕ). z * l) e ∙ mul_right_comm c b l in
    let same_k : size (root (a * l / b)) - prec f ≡ size (root (c * l / d)) - prec f = ap (λ (z : ℕ). size (root z) - prec f) (div_same (a * l) b (c * l) d B D x) in
    let k = size (root (c * l / d)) - prec f in
    let p = 2 ^ (k + k) in
    let same_q : root (a * l / (b * p)) ≡ root (c * l / (d * p)) =
    ap root (div_same (a * l) (b * p) (c * l) (d * p) (mul-pos B (pow_pos (k + k))) (mul-pos D (pow_pos (k + k))) (sym (mul_assoc (a * l) d p) ∙ ap (λ (z : ℕ). z * p) x ∙ mul_assoc (c * l) b p)) in
    let q = root (c * l / (d * p)) in
    let S = (q * 2 + 1) * (q * 2 + 1) in
    root_round_is f a b
    ∙ ap (λ (z : ℕ). rounds f (a * l) (b * 2 ^ (z + z)) (root (a * l / (b * 2 ^ (z + z)))) z) same_k
    ∙ ap (λ (z : ℕ). rounds f (a * l) (b * p) z k) same_q
    ∙ ap (λ (o : Ordering). units f false (nearest q o) k)
    (compare_same (a * l * 4) (S * (b * p)) (c * l * 4) (S * (d * p)) b d B D
    (mul_right_comm (a * l) 4 d ∙ ap (λ (z : ℕ). z * 4) x ∙ mul_right_comm (c * l) b 4)
    (mul_assoc S (b * p) d ∙ ap (λ (z : ℕ). S * z) (mul_right_comm b p d ∙ ap (λ (z : ℕ). z * p) (mul_comm b d) ∙ mul_right_comm d b p) ∙ sym (mul_assoc S (d * p) b)))
    ∙ sym (root_round_is f c d)

-- ---- the tests
clash : {X : Type 0} (b : Bool) → T b → b ≡ false → X
clash b t e = absurd (subst T e t)

pub root_nan : (x : Float) → x ≡ nan → x ≡ sqrt_of x
unfolding sqrt_of
root_nan x e = e ∙ ap sqrt_of (sym e)

no_product : (m : ℕ) (e : ℤ) (z : ℕ) → z ≡ 0 → suc m * up e * 1 ≡ z → ⊥
no_product m e z h k = lt_irrefl 0 (subst (λ (n : ℕ). 0 < n) (k ∙ h) (mul-pos (mul-pos (zero-lt-suc m) (up_pos e)) (zero-lt-suc 0)))

pub root_zero : (x : Float) → eq x (fin false 0 (pos 0)) ≡ true → x ≡ sqrt_of x
unfolding eq sqrt_of
root_zero nan t = absurd (false≢true t)
root_zero (inf s) t = absurd (false≢true t)
root_zero (fin s zero e) t = refl
root_zero (fin s (suc m) e) t =
    let M = suc m * up e * 1 in
    absurd (no_product m e (0 * down e) (zero-mul (down e)) (eqb→eq M (0 * down e) (and_l (eqb M (0 * down e)) (beq s false || eqb M 0) (subst T (sym t) tt))))

none_below : (a b : ℕ) → b ≡ 0 → a < b → ⊥
none_below a b e h = omega arith

none_sum : (a b c d : ℕ) → a ≡ 0 → b ≡ 0 → 0 < a + b → ⊥
none_sum a b c d p q h = omega arith

zero_side : (e : ℤ) → 0 * up e * 1 ≡ 0
zero_side e = ap (λ (k : ℕ). k * 1) (zero-mul (up e)) ∙ zero-mul 1

pub root_below : (x : Float) → lt x (fin false 0 (pos 0)) ≡ true → nan ≡ sqrt_of x
unfolding lt sqrt_of
root_below nan t = refl
root_below (inf true) t = refl
root_below (inf false) t = absurd (false≢true t)
root_below (fin true zero e) t = absurd (none_sum (0 * up e * 1) (0 * down e) 0 0 (zero_side e) (zero-mul (down e)) (ltb-true 0 (0 * up e * 1 + 0 * down e) t))
root_below (fin true (suc m) e) t = refl
root_below (fin false zero e) t = absurd (none_below (0 * up e * 1) (0 * down e) (zero-mul (down e)) (ltb-true (0 * up e * 1) (0 * down e) t))
root_below (fin false (suc m) e) t = absurd (none_below (suc m * up e * 1) (0 * down e) (zero-mul (down e)) (ltb-true (suc m * up e * 1) (0 * down e) t))

inf_root : (s : Bool) → lt (inf s) (fin false 0 (pos 0)) ≡ false → inf s ≡ sqrt_of (inf s)
unfolding lt sqrt_of
inf_root true t = absurd (true≢false t)
inf_root false t = refl

root_inf : (x : Float) (s : Bool) → x ≡ inf s → lt x (fin false 0 (pos 0)) ≡ false → x ≡ sqrt_of x
root_inf x s e t = e ∙ inf_root s (subst (λ (y : Float). lt y (fin false 0 (pos 0)) ≡ false) e t) ∙ ap sqrt_of (sym e)

-- what is not below zero and has a value that is not zero
root_at_lem : (x : Float) (s : Bool) (a c : ℕ) → 0 < a → 0 < c → lt x (fin false 0 (pos 0)) ≡ false → HasValue x s a c → root_round binary32 a c ≡ sqrt_of x
unfolding lt sqrt_of
root_at_lem (fin t zero e) s a c A C l v = absurd (lt_irrefl 0 (subst (λ (k : ℕ). 0 < k) (sym v.1 ∙ ap (λ (k : ℕ). k * c) (zero-mul (up e)) ∙ zero-mul c) (mul-pos A (down_pos e))))
root_at_lem (fin true (suc m) e) s a c A C l v =
    clash (ltb 0 (suc m * up e * 1 + 0 * down e))
    (lt→ltb 0 (suc m * up e * 1 + 0 * down e) (lt_of_lt_of_le (mul-pos (mul-pos (zero-lt-suc m) (up_pos e)) (zero-lt-suc 0)) (le-add_right (suc m * up e * 1) (0 * down e)))) l
root_at_lem (fin false (suc m) e) s a c A C l v = sym (root_same binary32 (suc m * up e) (down e) a c (down_pos e) C v.1)
root_at_lem nan s a c A C l v = elim v [ ]
root_at_lem (inf _) s a c A C l v = elim v [ ]

-- a value that is not zero has a fraction that is not
value_zero : (x : Float) (s : Bool) (a c : ℕ) → 0 < c → a ≡ 0 → HasValue x s a c → eq x (fin false 0 (pos 0)) ≡ true
unfolding eq
value_zero (fin t zero e) s a c C z v = level_zero t (0 * up e * 1) (0 * down e) (zero_side e) (zero-mul (down e))
  where
    both : (t : Bool) → level t 0 false 0 ≡ true
    both true = refl
    both false = refl

    level_zero : (t : Bool) (p q : ℕ) → p ≡ 0 → q ≡ 0 → level t p false q ≡ true
    level_zero t p q g h = (λ i. level t (g i) false (h i)) ∙ both t
value_zero (fin t (suc m) e) s a c C z v =
    absurd (lt_irrefl 0 (subst (λ (k : ℕ). 0 < k) (v.1 ∙ ap (λ (k : ℕ). k * down e) z ∙ zero-mul (down e)) (mul-pos (mul-pos (zero-lt-suc m) (up_pos e)) C)))
value_zero nan s a c C z v = elim v [ ]
value_zero (inf _) s a c C z v = elim v [ ]

-- ---- the cases of the code, by the fields of x
module _ (x : Float) (fit : T (fits binary32 x)) where
  abbrev pub sign : Bool
  sign = the_sign binary32 x fit

  abbrev pub field : ℕ
  field = the_field binary32 x fit

  abbrev pub digits : ℕ
  digits = the_digits binary32 x fit

  pub case_inf : T (not (is_nan x)) → lt x (fin false 0 (pos 0)) ≡ false → field ≡ 0xff → x ≡ sqrt_of x
  case_inf n l e = root_inf x sign (is_inf binary32 x fit n e) l

  pub digits_pos : eq x (fin false 0 (pos 0)) ≡ false → field ≡ 0 → 0 < digits
  digits_pos z e = pos_of digits (λ (d : digits ≡ 0). true≢false (sym (value_zero x sign (digits * 2 ^ 0) (2 ^ 149) (pow_pos 149) (ap (λ (k : ℕ). k * 1) d) (low_value binary32 x fit e)) ∙ z))
    where
      pos_of : (n : ℕ) → (n ≡ 0 → ⊥) → 0 < n
      pos_of n h = omega arith

  pub case_low : eq x (fin false 0 (pos 0)) ≡ false → lt x (fin false 0 (pos 0)) ≡ false → field ≡ 0 → root_round binary32 (digits * 2 ^ 0) (2 ^ 149) ≡ sqrt_of x
  case_low z l e = root_at_lem x sign (digits * 2 ^ 0) (2 ^ 149) (mul-pos (digits_pos z e) (pow_pos 0)) (pow_pos 149) l (low_value binary32 x fit e)

  pub case_mid : lt x (fin false 0 (pos 0)) ≡ false → (field ≡ 0 → ⊥) → (field ≡ 0xff → ⊥) → root_round binary32 ((digits + 2 ^ 23) * 2 ^ (field - 1)) (2 ^ 149) ≡ sqrt_of x
  case_mid l p n =
      root_at_lem x sign ((digits + 2 ^ 23) * 2 ^ (field - 1)) (2 ^ 149) (mul-pos (lt_of_lt_of_le (pow_pos 23) (le-add_left (2 ^ 23) digits)) (pow_pos (field - 1))) (pow_pos 149) l
      (mid_value binary32 x fit p n)
