-- The steps of `whole` by value, for both formats: x is A / C, above zero and below H = 2 ^ (prec - 1). Assumes nothing.
use Rattle.std.proofs.Common.{◌≡◌, ℕ, zero, suc, ◌+◌, ◌-◌, ◌*◌, ◌/◌, ◌%◌, ◌^◌, ◌<◌, ◌≤◌, true, false, T, ltb, ℤ, pos, negsuc, sym, refl, ap, ◌∙◌, subst, inl, inr, le_trans, le_of_eq}
use Rattle.std.proofs.Common.{lt_of_le_of_lt, mul-le-mul_right, zero-lt-suc, mul_assoc, mul_comm, div-lt_iff_lt-mul, add-mul, eq-or-lt_of_le, mul-lt-mul_of_pos_right, mul-pos, one-mul}
use Rattle.std.proofs.Common.{le-div_iff_mul-le, zero-mul, mul-one, mul_right_comm, div-one, le-add_left, arith, lit<, lit≤, pow_pos, pow-add, ltb-false, ltb-true, lt-ltb}
use mathlib.Core.Bool.{false≢true}
use lib.Pow.{pow-lt}
use lib.Ieee.{Float, nan, inf, fin, Format, binary32, binary64, prec, low, up, down, size, round, sum, add, sub, lt, fits}
use lib.Ieee.Fits.{down_pos, add-fits, sub-fits}
use lib.Ieee.Exact.{HasValue}
use lib.Ieee.Nearest.{closest, closest_same}
use lib.Ieee.Scale.{grid, overflow, round_val}
use Rattle.ieee.specs.Whole.{whole, cut, raised, half_up}
use Rattle.ieee.proofs.Value.{value_unique, revalue, add_value, lt_value}
use Rattle.ieee.proofs.Between.{whole_valued, whole_fitted}
use Rattle.ieee.proofs.Sums.{add_exact, sub_exact}
use Rattle.ieee.proofs.Digits.{size_at}
use Rattle.float.specs.Small.{Small}
use Rattle.ieee.proofs.Quotients.{closest_one, closest_add, raised_one, half_one, closest_below, cut_less, cut_same, raised_more, raised_same, half_up_lem, half_same}

-- the power of two from which on every value is whole
abbrev pub H : Format → ℕ
H f = 2 ^ (prec f - 1)

H_pos : (f : Format) → 0 < H f
H_pos f = pow_pos (prec f - 1)

pub H_twice : (f : Format) → H f * 2 ≡ 2 ^ prec f
H_twice binary32 = refl
H_twice binary64 = refl

-- ---- a small x as a fraction
pub record Parts (f : Format) (x : Float) : Type 0 where
  pub m : ℕ
  pub e : ℤ
  pub is : x ≡ fin false m e
  pub below : m * up e < H f * down e

pub parts : (f : Format) (x : Float) → Small f x → Parts f x
unfolding lt
parts f nan s = absurd (false≢true s.positive)
parts f (inf true) s = absurd (false≢true s.positive)
parts f (inf false) s = absurd (false≢true s.below)
parts f (fin true m e) s = absurd (false≢true s.positive)
parts f (fin false m e) s =
    let h = ltb-true (m * up e * 1) (1 * H f * down e) s.below in
    record { m = m; e = e; is = refl; below = subst (λ (n : ℕ). m * up e < n * down e) (one-mul (H f)) (subst (λ (n : ℕ). n < 1 * H f * down e) (mul-one (m * up e)) h) }

-- the fraction A / C that x is
abbrev pub A : {f : Format} {x : Float} → Parts f x → ℕ
A z = z.m * up z.e

abbrev pub C : {f : Format} {x : Float} → Parts f x → ℕ
C z = down z.e

pub C_pos : {f : Format} {x : Float} (z : Parts f x) → 0 < C z
C_pos z = down_pos z.e

pub x_value : {f : Format} {x : Float} (z : Parts f x) → HasValue x false (A z) (C z)
x_value z = subst (λ (y : Float). HasValue y false (A z) (C z)) (sym z.is) (refl, refl)

-- ---- x + H, rounded to a whole number
H_even : (f : Format) → H f % 2 ≡ 0
H_even binary32 = refl
H_even binary64 = refl

prec_pos : (f : Format) → 0 < prec f
prec_pos binary32 = zero-lt-suc 23
prec_pos binary64 = zero-lt-suc 52

-- (a + H c) / c has one digit of its own place for each that the format keeps, so that `low` digits below them are dropped
module _ (f : Format) (a c : ℕ) (P : 0 < c) (h : a < H f * c) where
  n : ℕ
  n = a + H f * c

  scaled : n * 2 ^ low f / c < 2 ^ (prec f + low f)
  unfolding n
  scaled =
      (div-lt_iff_lt-mul P).1
      (subst (λ (k : ℕ). (a + H f * c) * 2 ^ low f < k) (mul_right_comm (2 ^ prec f) c (2 ^ low f) ∙ ap (λ (k : ℕ). k * c) (sym (pow-add 2 (prec f) (low f))))
      (mul-lt-mul_of_pos_right (subst (λ (k : ℕ). a + H f * c < k) (twice (H f) c ∙ ap (λ (k : ℕ). k * c) (H_twice f)) (more a (H f * c) h)) (pow_pos (low f))))
    where
      more : (a b : ℕ) → a < b → a + b < b + b
      more a b h = omega arith

      twice : (b c : ℕ) → b * c + b * c ≡ b * 2 * c
      twice b c = sum' (b * c) ∙ mul_right_comm b c 2
        where
          sum' : (k : ℕ) → k + k ≡ k * 2
          sum' k = omega arith

  reached : 2 ^ (prec f - 1 + low f) ≤ n * 2 ^ low f / c
  unfolding n
  reached =
      (le-div_iff_mul-le P).1
      (le_trans (le_of_eq (ap (λ (k : ℕ). k * c) (pow-add 2 (prec f - 1) (low f)) ∙ mul_right_comm (H f) (2 ^ low f) c)) (mul-le-mul_right (2 ^ low f) (le-add_left (H f * c) a)))

  dropped : size (n * 2 ^ low f / c) - prec f ≡ low f
  dropped = size_at (prec f) (n * 2 ^ low f / c) (low f) (prec_pos f) scaled (λ (l : 0 < low f). reached)

  grid_is : grid f n c ≡ (closest a c + H f) * 2 ^ low f
  grid_is =
      ap (λ (k : ℕ). closest (n * 2 ^ low f) (c * 2 ^ k) * 2 ^ k) dropped
      ∙ ap (λ (k : ℕ). k * 2 ^ low f)
      (closest_same (n * 2 ^ low f) (c * 2 ^ low f) n c (mul-pos P (pow_pos (low f))) P (mul_assoc n (2 ^ low f) c ∙ ap (λ (k : ℕ). n * k) (mul_comm (2 ^ low f) c))
      ∙ (unfold n in closest_add a c (H f) P (H_even f)))

  in_range : grid f n c < overflow f
  in_range =
      subst (λ (k : ℕ). k < overflow f) (sym grid_is)
      (lt_of_le_of_lt (mul-le-mul_right (2 ^ low f) (le_trans (top (closest a c) (H f) (closest_below a c P (H f) h)) (le_of_eq (H_twice f)))) (small f))
    where
      top : (k b : ℕ) → k ≤ b → k + b ≤ b * 2
      top k b h = omega arith

      small : (f : Format) → 2 ^ prec f * 2 ^ low f < overflow f
      small binary32 = subst (λ (k : ℕ). k < 2 ^ 277) (pow-add 2 24 149) (pow-lt {i = 173} {j = 277} (lit< tt))
      small binary64 = subst (λ (k : ℕ). k < 2 ^ 2098) (pow-add 2 53 1074) (pow-lt {i = 1127} {j = 2098} (lit< tt))

  pub top_value : HasValue (round f false (a + H f * c) c) false (closest a c + H f) 1
  unfolding n
  top_value =
      revalue (round f false n c) false (grid f n c) (2 ^ low f) (closest a c + H f) 1 (pow_pos (low f)) (mul-one (grid f n c) ∙ grid_is) (round_val f n c in_range)

-- ---- what has the value of a whole number near x is `whole` of x
module _ {f : Format} {x : Float} (z : Parts f x) (fit : T (fits f x)) (g : ℕ → ℕ → ℕ) (one : (k : ℕ) → g k 1 ≡ k) where
  pub whole_fits : g (A z) (C z) < 2 ^ prec f → T (fits f (whole g x))
  whole_fits h = subst (λ (y : Float). T (fits f (whole g y))) (sym z.is) (whole_fitted g one f false z.m z.e (subst (λ (y : Float). T (fits f y)) z.is fit) h)

  pub whole_value : HasValue (whole g x) false (g (A z) (C z)) 1
  whole_value = subst (λ (y : Float). HasValue (whole g y) false (g (A z) (C z)) 1) (sym z.is) (whole_valued g one false z.m z.e)

  pub whole_is : (y : Float) (k : ℕ) → T (fits f y) → k < 2 ^ prec f → HasValue y false k 1 → k ≡ g (A z) (C z) → y ≡ whole g x
  whole_is y k u h v is =
      value_unique f f y (whole g x) false k 1 (zero-lt-suc 0) u (whole_fits (subst (λ (i : ℕ). i < 2 ^ prec f) is h)) v
      (subst (λ (i : ℕ). HasValue (whole g x) false i 1) (sym is) whole_value)

-- ---- x + H - H
power : (f : Format) → Float
power f = fin false 1 (pos (prec f - 1))

power_fits : (f : Format) → T (fits f (power f))
power_fits binary32 = unfold power fits in tt
power_fits binary64 = unfold power fits in tt

power_value : (f : Format) → HasValue (power f) false (H f) 1
unfolding power
power_value f = (refl, ap (λ (k : ℕ). k * 1) (one-mul (H f)))

module _ {f : Format} {x : Float} (z : Parts f x) (fit : T (fits f x)) where
  pub k_le : closest (A z) (C z) ≤ H f
  k_le = closest_below (A z) (C z) (C_pos z) (H f) z.below

  nearest_lt : closest (A z) (C z) < 2 ^ prec f
  nearest_lt = subst (λ (i : ℕ). closest (A z) (C z) < i) (H_twice f) (omega (arith, H_pos f, k_le))

  raised_sum : HasValue (add f x (power f)) false (closest (A z) (C z) + H f) 1
  raised_sum =
      subst (λ (y : Float). HasValue y false (closest (A z) (C z) + H f) 1)
      (sym (add_value f x (power f) false false (A z) (C z) (H f) 1 (C_pos z) (zero-lt-suc 0) (x_value z) (power_value f) ∙ sum_is))
      (top_value f (A z) (C z) (C_pos z) z.below)
    where
      sum_is : sum f false (A z * 1) false (H f * C z) (C z * 1) ≡ round f false (A z + H f * C z) (C z)
      sum_is = unfold sum in (λ i. round f false (mul-one (A z) i + H f * C z) (mul-one (C z) i))

  -- as the code computes the sum
  pub sum_value : HasValue (add f x (fin false 1 (pos (prec f - 1)))) false (closest (A z) (C z) + H f) 1
  unfolding power
  sum_value = raised_sum

  nearest_value : HasValue (sub f (add f x (power f)) (power f)) false (closest (A z) (C z)) 1
  nearest_value =
      let n = closest (A z) (C z) in
      subst (λ (i : ℕ). HasValue (sub f (add f x (power f)) (power f)) false i 1) (back n (H f))
      (sub_exact f (add f x (power f)) (power f) (n + H f) 1 (H f) 1 (zero-lt-suc 0) (zero-lt-suc 0) raised_sum (power_value f) n 0 nearest_lt (omega arith)
      (omega arith) (omega arith))
    where
      back : (n h : ℕ) → (n + h) * 1 - h * 1 ≡ n
      back n h = omega arith

  -- as the code of `nearest` computes it
  pub nearest_is : sub f (add f x (fin false 1 (pos (prec f - 1)))) (fin false 1 (pos (prec f - 1))) ≡ whole closest x
  unfolding power
  nearest_is = whole_is z fit closest closest_one (sub f (add f x (power f)) (power f)) (closest (A z) (C z)) (sub-fits f (add f x (power f)) (power f)) nearest_lt nearest_value refl

-- ---- from the nearest whole number n, by a comparison with x, to the one that is wanted
one : Float
one = fin false 1 (pos 0)

half : Float
half = fin false 1 (negsuc 0)

module _ {f : Format} {x : Float} (z : Parts f x) (fit : T (fits f x)) (n : Float) (is : n ≡ whole closest x) where
  k : ℕ
  k = closest (A z) (C z)

  k_small : k + 1 < 2 ^ prec f
  unfolding k
  k_small = subst (λ (i : ℕ). closest (A z) (C z) + 1 < i) (H_twice f) (omega (arith, H_more f, k_le z fit))
    where
      H_more : (f : Format) → 2 ≤ H f
      H_more binary32 = lit≤ tt
      H_more binary64 = lit≤ tt

  n_value : HasValue n false k 1
  unfolding k
  n_value = subst (λ (y : Float). HasValue y false (closest (A z) (C z)) 1) (sym is) (whole_value z fit closest closest_one)

  n_fits : T (fits f n)
  unfolding k
  n_fits = subst (λ (y : Float). T (fits f y)) (sym is) (whole_fits z fit closest closest_one (omega (arith, k_small)))

  less_one : 1 ≤ k → HasValue (sub f n one) false (k - 1) 1
  unfolding one
  less_one h =
      subst (λ (i : ℕ). HasValue (sub f n (fin false 1 (pos 0))) false i 1) (omega arith)
      (sub_exact f n one k 1 1 1 (zero-lt-suc 0) (zero-lt-suc 0) n_value (refl, refl) (k - 1) 0 (omega (arith, k_small)) (omega arith) (omega arith) (omega arith))

  more_one : HasValue (add f n one) false (k + 1) 1
  unfolding one
  more_one =
      subst (λ (i : ℕ). HasValue (add f n (fin false 1 (pos 0))) false i 1) (omega arith)
      (add_exact f n one k 1 1 1 (zero-lt-suc 0) (zero-lt-suc 0) n_value (refl, refl) (k + 1) 0 k_small (omega arith) (omega arith))

  -- n + 1 / 2 has a place for its fraction, but where n is H itself
  more_half : k < H f → HasValue (add f n half) false (k * 2 + 1) 2
  unfolding half
  more_half h =
      add_exact f n half k 1 1 2 (zero-lt-suc 0) (zero-lt-suc 1) n_value (refl, refl) (k * 2 + 1) 1 (subst (λ (i : ℕ). k * 2 + 1 < i) (H_twice f) (omega arith)) (low_pos f) (omega arith)
    where
      low_pos : (f : Format) → 1 ≤ low f
      low_pos binary32 = lit≤ tt
      low_pos binary64 = lit≤ tt

  test_below : lt x n ≡ ltb (A z * 1) (k * C z)
  test_below = lt_value x n (A z) (C z) k 1 (C_pos z) (zero-lt-suc 0) (x_value z) n_value

  test_above : lt n x ≡ ltb (k * C z) (A z * 1)
  test_above = lt_value n x k 1 (A z) (C z) (zero-lt-suc 0) (C_pos z) n_value (x_value z)

  at_top : k ≡ H f → lt x (add f n half) ≡ ltb (A z * 2) ((k * 2 + 1) * C z)
  at_top e =
      ap (lt x) (ap (λ (y : Float). add f y half) top_is ∙ stuck f ∙ sym top_is)
      ∙ test_below
      ∙ lt-ltb (A z * 1) (k * C z) (omega (arith, below))
      ∙ sym (lt-ltb (A z * 2) ((k * 2 + 1) * C z) (omega (arith, below, mul_right_comm k 2 (C z), add-mul (k * 2) 1 (C z))))
    where
      below : A z < k * C z
      below = subst (λ (i : ℕ). A z < i * C z) (sym e) z.below

      stuck : (f : Format) → add f (power f) half ≡ power f
      stuck binary32 = unfold power half add in refl
      stuck binary64 = unfold power half add in refl

      top_is : n ≡ power f
      top_is = value_unique f f n (power f) false k 1 (zero-lt-suc 0) n_fits (power_fits f) n_value (subst (λ (i : ℕ). HasValue (power f) false i 1) (sym e) (power_value f))

  test_half : lt x (add f n half) ≡ ltb (A z * 2) ((k * 2 + 1) * C z)
  test_half = elim (eq-or-lt_of_le (k_le')) [
    | inl e ↦ at_top e
    | inr h ↦ lt_value x (add f n half) (A z) (C z) (k * 2 + 1) 2 (C_pos z) (zero-lt-suc 1) (x_value z) (more_half h)
  ]
    where
      k_le' : k ≤ H f
      k_le' = unfold k in k_le z fit

  -- the tests of `cut`, `raised` and `half_up`, each way
  pub cut_taken : lt x n ≡ true → sub f n (fin false 1 (pos 0)) ≡ whole cut x
  unfolding one k
  cut_taken t =
      let l : A z * 1 < k * C z = ltb-true (A z * 1) (k * C z) (sym test_below ∙ t) in
      whole_is z fit cut div-one (sub f n one) (k - 1) (sub-fits f n one) (omega (arith, k_small)) (less_one (positive k (C z) (A z) l)) (cut_less (A z) (C z) (C_pos z) (omega arith))
    where
      positive : (k c a : ℕ) → a * 1 < k * c → 1 ≤ k
      positive zero c a h = absurd (let b : ⊥ = omega (arith, zero-mul c) in b)
      positive (suc k) c a h = omega arith

  pub cut_left : lt x n ≡ false → n ≡ whole cut x
  unfolding k
  cut_left t =
      let l : k * C z ≤ A z * 1 = ltb-false (A z * 1) (k * C z) (sym test_below ∙ t) in
      whole_is z fit cut div-one n k n_fits (omega (arith, k_small)) n_value (cut_same (A z) (C z) (C_pos z) (omega arith))

  pub raised_taken : lt n x ≡ true → add f n (fin false 1 (pos 0)) ≡ whole raised x
  unfolding one k
  raised_taken t =
      let l : k * C z < A z * 1 = ltb-true (k * C z) (A z * 1) (sym test_above ∙ t) in
      whole_is z fit raised raised_one (add f n one) (k + 1) (add-fits f n one) k_small more_one (raised_more (A z) (C z) (C_pos z) (omega arith))

  pub raised_left : lt n x ≡ false → n ≡ whole raised x
  unfolding k
  raised_left t =
      let l : A z * 1 ≤ k * C z = ltb-false (k * C z) (A z * 1) (sym test_above ∙ t) in
      whole_is z fit raised raised_one n k n_fits (omega (arith, k_small)) n_value (raised_same (A z) (C z) (C_pos z) (omega arith))

  pub half_taken : lt x (add f n (fin false 1 (negsuc 0))) ≡ true → n ≡ whole half_up x
  unfolding half k
  half_taken t =
      let l : A z * 2 < (k * 2 + 1) * C z = ltb-true (A z * 2) ((k * 2 + 1) * C z) (sym test_half ∙ t) in
      whole_is z fit half_up half_one n k n_fits (omega (arith, k_small)) n_value (half_same (A z) (C z) (C_pos z) l)

  pub half_left : lt x (add f n (fin false 1 (negsuc 0))) ≡ false → add f n (fin false 1 (pos 0)) ≡ whole half_up x
  unfolding half one k
  half_left t =
      let l : (k * 2 + 1) * C z ≤ A z * 2 = ltb-false (A z * 2) ((k * 2 + 1) * C z) (sym test_half ∙ t) in
      whole_is z fit half_up half_one (add f n one) (k + 1) (add-fits f n one) k_small more_one (half_up_lem (A z) (C z) (C_pos z) l)
