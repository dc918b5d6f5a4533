-- IEEE 754 speaks of the value that is delivered: `RoundsTo` holds of one value of the format alone, for any sign and any magnitude whose halves are in
-- order (`rounds_unique`), so that what rounds as the standard asks is what the definitions give. Assumes nothing.
use mathlib.Core.Path.{◌≡◌, refl, sym, ap, ◌∙◌, subst}
use mathlib.Core.Logic.{◌≢◌, inl, inr}
use mathlib.Core.Bool.{Bool, false}
use Prim.Native.Nat.{ℕ, suc, ◌+◌, ◌-◌, ◌*◌, ◌/◌, ◌%◌, ◌^◌, ◌≤◌, ◌<◌, compare, Ordering}
use native.Mathlib.Nat.{add_comm, le_trans, le_of_eq, le_of_lt, lt_irrefl, lt_of_lt_of_le, not-le_of_lt, eq-or-lt_of_le, mul-le-mul_right, mul-lt-mul_of_pos_right, lt_of_mul-lt-mul_right}
use native.Mathlib.Nat.{le_of_mul-le-mul_right, mul-div_cancel}
use native.Mathlib.Omega.{arith}
use lib.IntN.{ℤ}
use lib.Pow.{pow_pos}
use lib.Ieee.{Float, fin, Format, binary32, prec, low, up, down, size, units, round, to_bits}
use lib.Ieee.Fits.{two, two-le_pos, down_pos}
use lib.Ieee.Exact.{HasValue}
use Rattle.ieee.specs.Narrow.{narrow_of}
use Rattle.ieee.specs.Root.{root_round, sqrt_of}
use Rattle.ieee.specs.Nearest.{Magnitude, Ordered, fraction_at, root_at, limit, IsValue, Nearest, RoundsTo}
use Rattle.ieee.proofs.Value.{value_unique}
use Rattle.ieee.proofs.Rounding.{Cmp, cmp, compare_gt}
use Rattle.ieee.proofs.Halves.{Grows, on_grid, pow_even}
use Rattle.ieee.proofs.Units.{short, keeps, keeps_q, drops, last_bit, units_value, value_below}
use Rattle.ieee.proofs.Nearest.{says, square_lt, round_nearest, narrow_nearest, root_nearest, sqrt_nearest}

-- ---- between two values whose patterns are even lies a third: the next one above the lower
pub record Among (f : Format) (s : Bool) (a b : ℕ) : Type 0 where
  pub c : ℕ
  pub y : Float
  pub value : IsValue f s c y
  pub above : a < c
  pub below : c < b

module _ (f : Format) (s : Bool) {a b : ℕ} {x z : Float} (v : IsValue f s a x) (w : IsValue f s b z) (l : a < b) (even : to_bits f x % 2 ≡ 0) (even' : to_bits f z % 2 ≡ 0) where
  P : 0 < prec f
  P = two-le_pos (prec f) (two f)

  -- a is q steps of 2 ^ k
  abbrev k : ℕ
  k = size a - prec f

  abbrev q : ℕ
  q = keeps (prec f) a

  q_even : q % 2 ≡ 0
  q_even = sym (last_bit f x s a v.is) ∙ even

  a_is : a ≡ q * 2 ^ k
  a_is = elim (on_grid (prec f) k a P (short f s a x v)) [
    | inl c ↦ c.1 ∙ ap (λ (n : ℕ). n * 2 ^ k) (sym (ap (λ (n : ℕ). n / 2 ^ k) c.1 ∙ mul-div_cancel c.0 (pow_pos k)))
    | inr n ↦ absurd (not-le_of_lt n.1 ((drops (prec f) a P).1 n.0))
  ]

  q_lt : q < 2 ^ prec f
  q_lt = lt_of_mul-lt-mul_right (2 ^ k) (subst (λ (n : ℕ). n < 2 ^ prec f * 2 ^ k) a_is (drops (prec f) a P).0)

  q_least : 0 < k → 2 ^ (prec f - 1) ≤ q
  q_least i = le_of_mul-le-mul_right (subst (λ (n : ℕ). 2 ^ (prec f - 1) * 2 ^ k ≤ n) a_is ((drops (prec f) a P).1 i)) (pow_pos k)

  -- one step more
  next : ℕ
  next = suc q * 2 ^ k

  next_le : next ≤ b
  unfolding next
  next_le = elim (on_grid (prec f) k b P (short f s b z w)) [
    | inl c ↦ le_trans (mul-le-mul_right (2 ^ k) (lt_of_mul-lt-mul_right (2 ^ k) (subst (λ (n : ℕ). n < c.0 * 2 ^ k) a_is (subst (λ (n : ℕ). a < n) c.1 l)))) (le_of_eq (sym c.1))
    | inr n ↦ absurd (not-le_of_lt n.1 (le_trans ((drops (prec f) a P).1 n.0) (le_of_lt l)))
  ]

  next_ne : next ≡ b → ⊥
  unfolding next
  next_ne e = elim (eq-or-lt_of_le q_lt) [
    | inl t ↦ odd_top q (2 ^ prec f) t q_even (pow_even (prec f) P)
    | inr t ↦ odd_next q q_even (sym (ap (λ (n : ℕ). n % 2) (kept t)) ∙ ap (λ (n : ℕ). keeps (prec f) n % 2) e ∙ sym (last_bit f z s b w.is) ∙ even')
  ]
    where
      kept : suc q < 2 ^ prec f → keeps (prec f) (suc q * 2 ^ k) ≡ suc q
      kept t = keeps_q (prec f) (suc q) k P t (λ i. le_trans (q_least i) (omega arith))

      odd_top : (q p : ℕ) → suc q ≡ p → q % 2 ≡ 0 → p % 2 ≡ 0 → ⊥
      odd_top q p t e h = omega arith

      odd_next : (q : ℕ) → q % 2 ≡ 0 → suc q % 2 ≡ 0 → ⊥
      odd_next q e h = omega arith

  among : Among f s a b
  unfolding next
  among = elim (eq-or-lt_of_le next_le) [
    | inl e ↦ absurd (next_ne e)
    | inr t ↦ record {
      c = suc q * 2 ^ k;
      y = units f s (suc q) k;
      value = units_value f s (suc q) k q_lt (lt_of_lt_of_le t (le_of_lt (value_below f s b z w)));
      above = subst (λ (n : ℕ). n < suc q * 2 ^ k) (sym a_is) (mul-lt-mul_of_pos_right (omega arith) (pow_pos k));
      below = t;
    }
  ]

-- ---- two nearest values
abbrev Below : Ordering → Type 0
Below Ordering.lt = Unit
Below Ordering.eq = ⊥
Below Ordering.gt = ⊥

is_eq : (o : Ordering) → o ≢ Ordering.gt → o ≢ Ordering.lt → o ≡ Ordering.eq
is_eq Ordering.lt g l = absurd (l refl)
is_eq Ordering.eq g l = refl
is_eq Ordering.gt g l = absurd (g refl)

module _ (f : Format) (v : Magnitude) (s : Bool) (O : Ordered v) where
  not_less : {r r' : Float} (n : Nearest f v s r) (n' : Nearest f v s r') → n.u < n'.u → ⊥
  not_less {r} {r'} n n' l =
      let swap : n'.u + n.u ≡ n.u + n'.u = add_comm n'.u n.u in
      let mid : v (n.u + n'.u) ≡ Ordering.eq = is_eq (v (n.u + n'.u)) (n.above r' n'.u n'.value l) (subst (λ (h : ℕ). v h ≢ Ordering.lt) swap (n'.below r n.u n.value l)) in
      let low-even = n.tie r' n'.u n'.value (λ e. lt_irrefl n.u (subst (λ (h : ℕ). n.u < h) e l)) mid in
      let high-even = n'.tie r n.u n.value (λ e. lt_irrefl n.u (subst (λ (h : ℕ). n.u < h) (sym e) l)) (ap v swap ∙ mid) in
      let m = among f s n.value n'.value l low-even high-even in
      n.above m.y m.c m.value m.above (O (n.u + m.c) (n.u + n'.u) (omega (arith, m.below)) mid)

  same : {r r' : Float} (n : Nearest f v s r) (n' : Nearest f v s r') → r ≡ r'
  same {r} {r'} n n' = go (compare n.u n'.u) (cmp n.u n'.u)
    where
      go : (o : Ordering) → Cmp o n.u n'.u → r ≡ r'
      go Ordering.lt l = absurd (not_less n n' l)
      go Ordering.eq e =
          value_unique f f r r' s n.u (2 ^ low f) (pow_pos (low f)) n.value.held n'.value.held n.value.is
          (subst (λ (u : ℕ). HasValue r' s u (2 ^ low f)) (sym e) n'.value.is)
      go Ordering.gt l = absurd (not_less n' n l)

  pub rounds_unique : {r r' : Float} → RoundsTo f v s r → RoundsTo f v s r' → r ≡ r'
  rounds_unique {r} {r'} a b = go (v (limit f)) refl
    where
      out : v (limit f) ≢ Ordering.lt → r ≡ r'
      out h = a.beyond h ∙ sym (b.beyond h)

      go : (o : Ordering) → v (limit f) ≡ o → r ≡ r'
      go Ordering.lt e = same (a.within e) (b.within e)
      go Ordering.eq e = out (λ h. subst Below (sym h ∙ e) tt)
      go Ordering.gt e = out (λ h. subst Below (sym h ∙ e) tt)

-- ---- what is given by a number A and a growing g is in order: so are the fractions and their roots
pub ordered : (A : ℕ) (g : ℕ → ℕ) → Grows g → Ordered (λ h. compare A (g h))
ordered A g G h i l e = compare_gt A (g h) (subst (λ (n : ℕ). g h < n) (sym (says A (g i) Ordering.eq e)) (G h i l))

pub fraction_ordered : (f : Format) (num den : ℕ) → 0 < den → Ordered (fraction_at f num den)
fraction_ordered f num den D = ordered (num * 2 ^ low f * 2) (λ h. h * den) (λ h i l. mul-lt-mul_of_pos_right l D)

pub root_ordered : (f : Format) (num den : ℕ) → 0 < den → Ordered (root_at f num den)
root_ordered f num den D = ordered (num * 2 ^ (low f + low f) * 4) (λ h. h * h * den) (λ h i l. mul-lt-mul_of_pos_right (square_lt h i l) D)

-- ---- so what rounds as IEEE 754 asks is what the definitions give
pub round_unique : (f : Format) (s : Bool) (num den : ℕ) (r : Float) → 0 < den → RoundsTo f (fraction_at f num den) s r → r ≡ round f s num den
round_unique f s num den r D a = rounds_unique f (fraction_at f num den) s (fraction_ordered f num den D) a (round_nearest f s num den D)

pub narrow_unique : (s : Bool) (m : ℕ) (e : ℤ) (r : Float) → RoundsTo binary32 (fraction_at binary32 (m * up e) (down e)) s r → r ≡ narrow_of (fin s m e)
narrow_unique s m e r a = rounds_unique binary32 (fraction_at binary32 (m * up e) (down e)) s (fraction_ordered binary32 (m * up e) (down e) (down_pos e)) a (narrow_nearest s m e)

pub root_unique : (f : Format) (num den : ℕ) (r : Float) → 0 < den → RoundsTo f (root_at f num den) false r → r ≡ root_round f num den
root_unique f num den r D a = rounds_unique f (root_at f num den) false (root_ordered f num den D) a (root_nearest f num den D)

pub sqrt_unique : (m : ℕ) (e : ℤ) (r : Float) → RoundsTo binary32 (root_at binary32 (suc m * up e) (down e)) false r → r ≡ sqrt_of (fin false (suc m) e)
sqrt_unique m e r a = rounds_unique binary32 (root_at binary32 (suc m * up e) (down e)) false (root_ordered binary32 (suc m * up e) (down e) (down_pos e)) a (sqrt_nearest m e)
