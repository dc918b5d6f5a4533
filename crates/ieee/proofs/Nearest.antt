-- `round` and `root_round` round as IEEE 754 asks (specs/Nearest), in any format, and so do `narrow_of` and `sqrt_of`. Assumes nothing.
use mathlib.Core.Path.{◌≡◌, sym, ap, ◌∙◌, subst}
use mathlib.Core.Logic.{◌≢◌}
use Prim.Native.Nat.{ℕ, suc, ◌+◌, ◌-◌, ◌*◌, ◌/◌, ◌%◌, ◌^◌, ◌≤◌, ◌<◌, zero-le, compare, Ordering}
use native.Mathlib.Nat.{le_trans, le_of_eq, le_of_lt, le_refl, lt_of_lt_of_le, lt_of_le_of_lt, lt_of_not-le, not-le_of_lt, le_of_suc-le-suc, mul_comm, mul_assoc, mul_right_comm, mul-pos}
use native.Mathlib.Nat.{mul-le-mul, mul-le-mul_left, mul-le-mul_right, mul-lt-mul_of_pos_right, mul-mul-mul_comm, div-mul-le_self, div-add-mod', le-div_iff_mul-le, div-lt_iff_lt-mul}
use native.Mathlib.Nat.{zero-lt-suc}
use native.Mathlib.Numerals.{add-one}
use native.Mathlib.Omega.{arith}
use mathlib.Core.Bool.{Bool, false}
use lib.IntN.{ℤ}
use lib.Pow.{pow-add, pow_pos}
use lib.Ieee.{fin, Format, binary32, prec, emax, low, up, down, size, units, round}
use lib.Ieee.Fits.{two, two-le_pos, reach, down_pos}
use lib.Ieee.Scale.{overflow}
use Rattle.ieee.specs.Narrow.{narrow_of}
use Rattle.ieee.specs.Root.{root, root_round, sqrt_of}
use Rattle.ieee.specs.Nearest.{fraction_at, root_at, limit, Nearest, RoundsTo}
use Rattle.ieee.proofs.Rounding.{Cmp, cmp, compare_lt}
use Rattle.ieee.proofs.Roots.{root_is}
use Rattle.ieee.proofs.Halves.{Grows, Placed, Rounded, rounded, none_above, none_below, tie_even, within, beyond}
use Rattle.ieee.proofs.Units.{short, units_value, units_inf, units_even, Drops, drops}

-- ---- what a comparison says
pub says : (a b : ℕ) (o : Ordering) → compare a b ≡ o → Cmp o a b
says a b o e = subst (λ (o : Ordering). Cmp o a b) e (cmp a b)

not_lt : (a b : ℕ) → b ≤ a → compare a b ≢ Ordering.lt
not_lt a b h e = not-le_of_lt (says a b Ordering.lt e) h

not_gt : (a b : ℕ) → a ≤ b → compare a b ≢ Ordering.gt
not_gt a b h e = not-le_of_lt (says a b Ordering.gt e) h

of_not_lt : (a b : ℕ) → compare a b ≢ Ordering.lt → b ≤ a
of_not_lt a b h = le_of_suc-le-suc (lt_of_not-le (λ (l : suc a ≤ b). h (compare_lt a b l)))

-- ---- a result that is rounded to q * 2 ^ k units is rounded as asked
digits : (f : Format) → 0 < prec f
digits f = two-le_pos (prec f) (two f)

abbrev zeros : Format → ℕ
zeros f = low f + emax f + 1 - prec f

overflow_is : (f : Format) → overflow f ≡ 2 ^ prec f * 2 ^ zeros f
overflow_is f = ap (λ (x : ℕ). 2 ^ x) (places (low f) (emax f) (prec f) (reach f)) ∙ pow-add 2 (prec f) (zeros f)
  where
    places : (l e p : ℕ) → p ≤ suc e → l + suc e ≡ p + (l + e + 1 - p)
    places l e p h = omega arith

module _ (f : Format) (s : Bool) {A k q : ℕ} {g : ℕ → ℕ} (G : Grows g) (r : Rounded (prec f) k A g q) where
  is_nearest : q * 2 ^ k < overflow f → Nearest f (λ h. compare A (g h)) s (units f s q k)
  is_nearest l = record {
    u = q * 2 ^ k;
    value = units_value f s q k r.most l;
    above = λ y b v i. not_gt A (g (q * 2 ^ k + b)) (none_above G (digits f) r (short f s b y v) i);
    below = λ y b v i. not_lt A (g (q * 2 ^ k + b)) (none_below G (digits f) r (short f s b y v) i);
    tie = λ y b v d e. units_even f s q k r.most r.least l (tie_even G (digits f) r (short f s b y v) d (says A (g (q * 2 ^ k + b)) Ordering.eq e));
  }

  pub rounds : RoundsTo f (λ h. compare A (g h)) s (units f s q k)
  rounds = record {
    beyond = λ h. units_inf f s q k (le_trans (le_of_eq (overflow_is f)) (beyond G (digits f) r (zeros f) (of_not_lt A (g (limit f)) h)));
    within = λ h. is_nearest (lt_of_lt_of_le (within G (digits f) r (zeros f) (says A (g (limit f)) Ordering.lt h)) (le_of_eq (sym (overflow_is f))));
  }

-- ---- n compares with g y as the result does with y units, and n * c with g h as it does with h halves
module _ (p k n c w : ℕ) (g : ℕ → ℕ) (C : 0 < c) (halves : (y : ℕ) → g (y * 2) ≡ g y * c) where
  placed : g (w * 2 ^ k) ≤ n → n < g (suc w * 2 ^ k) → n < g (2 ^ p * 2 ^ k) → (0 < k → g (2 ^ (p - 1) * 2 ^ k) ≤ n) → Placed p k (n * c) g w
  placed a b d e = record {
    low = at_most (w * 2 ^ k) a;
    high = under (suc w * 2 ^ k) b;
    most = under (2 ^ p * 2 ^ k) d;
    full = λ i. at_most (2 ^ (p - 1) * 2 ^ k) (e i);
  }
    where
      at_most : (y : ℕ) → g y ≤ n → g (y * 2) ≤ n * c
      at_most y h = le_trans (le_of_eq (halves y)) (mul-le-mul_right c h)

      under : (y : ℕ) → n < g y → n * c < g (y * 2)
      under y h = lt_of_lt_of_le (mul-lt-mul_of_pos_right h C) (le_of_eq (sym (halves y)))

-- ---- a fraction
in_steps : (x den K : ℕ) → x * K * den ≡ x * (den * K)
in_steps x den K = mul_assoc x K den ∙ ap (λ (y : ℕ). x * y) (mul_comm K den)

fraction_placed : (p k n den : ℕ) → 0 < den → Drops p k (n / den) → Placed p k (n * 2) (λ h. h * den) (n / (den * 2 ^ k))
fraction_placed p k n den D d =
    let u = den * 2 ^ k in
    let w = n / u in
    placed p k n 2 w (λ h. h * den) (zero-lt-suc 1) (λ y. mul_right_comm y 2 den)
    (le_trans (le_of_eq (in_steps w den (2 ^ k))) (div-mul-le_self n u))
    (lt_of_lt_of_le ((div-lt_iff_lt-mul (mul-pos D (pow_pos k))).0 (le_refl (suc w))) (le_of_eq (sym (in_steps (suc w) den (2 ^ k)))))
    ((div-lt_iff_lt-mul D).0 d.0)
    (λ i. (le-div_iff_mul-le D).0 (d.1 i))

-- twice the remainder against the divisor is the fraction against the point midway
midway : (o : Ordering) (n w r u : ℕ) → w * u + r ≡ n → Cmp o (r * 2) u → Cmp o (n * 2) ((w * 2 + 1) * u)
midway Ordering.lt n w r u e c = omega arith
midway Ordering.eq n w r u e c = omega arith
midway Ordering.gt n w r u e c = omega arith

pub round_nearest : (f : Format) (s : Bool) (num den : ℕ) → 0 < den → RoundsTo f (fraction_at f num den) s (round f s num den)
unfolding round
round_nearest f s num den D =
    let n = num * 2 ^ low f in
    let k = size (n / den) - prec f in
    let u = den * 2 ^ k in
    let w = n / u in
    let o = compare (n % u * 2) u in
    let G : Grows (λ h. h * den) = λ h i l. mul-lt-mul_of_pos_right l D in
    rounds f s G
    (rounded G (fraction_placed (prec f) k n den D (drops (prec f) (n / den) (digits f))) o
    (subst (Cmp o (n * 2)) (sym (in_steps (w * 2 + 1) den (2 ^ k))) (midway o n w (n % u) u (div-add-mod' n u) (cmp (n % u * 2) u))))

pub narrow_nearest : (s : Bool) (m : ℕ) (e : ℤ) → RoundsTo binary32 (fraction_at binary32 (m * up e) (down e)) s (narrow_of (fin s m e))
unfolding narrow_of
narrow_nearest s m e = round_nearest binary32 s (m * up e) (down e) (down_pos e)

-- ---- a root
in_squares : (x den k : ℕ) → x * 2 ^ k * (x * 2 ^ k) * den ≡ x * x * (den * 2 ^ (k + k))
in_squares x den k =
    ap (λ (y : ℕ). y * den) (mul-mul-mul_comm x (2 ^ k) x (2 ^ k) ∙ ap (λ (y : ℕ). x * x * y) (sym (pow-add 2 k k))) ∙ in_steps (x * x) den (2 ^ (k + k))

pub square_lt : (x y : ℕ) → x < y → x * x < y * y
square_lt x y l = lt_of_le_of_lt (mul-le-mul_left x (le_of_lt l)) (mul-lt-mul_of_pos_right l (lt_of_le_of_lt zero-le l))

root_under : (n : ℕ) → n < suc (root n) * suc (root n)
root_under n = subst (λ (y : ℕ). n < y * y) (add-one (root n)) (root_is n).1

root_placed : (p k n den : ℕ) → 0 < den → Drops p k (root (n / den)) → Placed p k (n * 4) (λ h. h * h * den) (root (n / (den * 2 ^ (k + k))))
root_placed p k n den D d =
    let u = den * 2 ^ (k + k) in
    let w = root (n / u) in
    let U = mul-pos D (pow_pos (k + k)) in
    placed p k n 4 w (λ h. h * h * den) (zero-lt-suc 3) halves
    (le_trans (le_of_eq (in_squares w den k)) ((le-div_iff_mul-le U).0 (root_is (n / u)).0))
    (lt_of_lt_of_le ((div-lt_iff_lt-mul U).0 (root_under (n / u))) (le_of_eq (sym (in_squares (suc w) den k))))
    ((div-lt_iff_lt-mul D).0 (lt_of_lt_of_le (root_under (n / den)) (mul-le-mul d.0 d.0)))
    (λ i. (le-div_iff_mul-le D).0 (le_trans (mul-le-mul (d.1 i) (d.1 i)) (root_is (n / den)).0))
  where
    halves : (y : ℕ) → y * 2 * (y * 2) * den ≡ y * y * den * 4
    halves y = ap (λ (z : ℕ). z * den) (mul-mul-mul_comm y 2 y 2) ∙ mul_right_comm (y * y) 4 den

pub root_nearest : (f : Format) (num den : ℕ) → 0 < den → RoundsTo f (root_at f num den) false (root_round f num den)
unfolding root_round
root_nearest f num den D =
    let n = num * 2 ^ (low f + low f) in
    let k = size (root (n / den)) - prec f in
    let u = den * 2 ^ (k + k) in
    let w = root (n / u) in
    let o = compare (n * 4) ((w * 2 + 1) * (w * 2 + 1) * u) in
    let G : Grows (λ h. h * h * den) = λ h i l. mul-lt-mul_of_pos_right (square_lt h i l) D in
    rounds f false G
    (rounded G (root_placed (prec f) k n den D (drops (prec f) (root (n / den)) (digits f))) o
    (subst (Cmp o (n * 4)) (sym (in_squares (w * 2 + 1) den k)) (cmp (n * 4) ((w * 2 + 1) * (w * 2 + 1) * u))))

pub sqrt_nearest : (m : ℕ) (e : ℤ) → RoundsTo binary32 (root_at binary32 (suc m * up e) (down e)) false (sqrt_of (fin false (suc m) e))
unfolding sqrt_of
sqrt_nearest m e = root_nearest binary32 (suc m * up e) (down e) (down_pos e)
