-- `rounding::square_root::root_digits` meets its contract. Assumes nothing.
use Rattle.std.proofs.Common.{◌≡◌, ℕ, ◌+◌, ◌-◌, ◌*◌, ◌/◌, ◌%◌, ◌^◌, ◌<◌, ◌≤◌, sym, ◌∙◌, subst, le_trans, lt_of_lt_of_le, le-add_right, le_of_lt, mod-lt, mod-eq_of_lt, zero-lt-suc}
use Rattle.std.proofs.Common.{mul-le-mul, lt_of_not-le, not-le_of_lt, arith, lit≤, pow_pos, rules}
use lib.Count.{count_leading_zeros}
use Rattle.ieee.proofs.Roots.{IsRoot, root_le}
use Rattle.rounding.proofs.Leading.{Placed, placed}
use Rattle.rounding.proofs.RootLaw.{evened, exponents, root_down, root_up}
use Rattle.rounding.proofs.square_root.root_digits.Goals as goal

abbrev shift : ℕ → ℕ
shift q = count_leading_zeros 64 q - 17

at46 : (q : ℕ) → 0 < q → q < 2 ^ 24 → Placed 24 17 q
at46 q P h = placed 24 17 q (lit≤ tt) P h

abbrev expo : ℕ → ℕ → ℕ
expo q k = k + 149 - shift q

abbrev digits : ℕ → ℕ → ℕ
digits q k = q * 2 ^ (shift q + expo q k % 2)

bounds : (q k : ℕ) → 0 < q → q < 2 ^ 24 → (2 ^ 46 ≤ digits q k) × (digits q k < 2 ^ 48)
bounds q k P h = let z = at46 q P h in evened q (shift q) (expo q k % 2) (mod-lt (expo q k) (zero-lt-suc 1)) z.low z.high

digits_are : (q k : ℕ) → 0 < q → q < 2 ^ 24 → digits q k % 2 ^ 64 ≡ digits q k
digits_are q k P h = mod-eq_of_lt (lt_of_lt_of_le (bounds q k P h).1 (lit≤ tt))

meet : (k z : ℕ) → z ≤ k + 149 → k + 298 ≡ z + (k + 149 - z) % 2 + ((k + 149 - z) / 2 + (k + 149 - z) / 2) + 149
meet k z h = omega arith

within : (q k : ℕ) → 0 < q → q < 2 ^ 24 → shift q ≤ k + 149
within q k P h = let z = (at46 q P h).most in omega arith

-- the root has 24 digits
root_lt : (s M p : ℕ) → s * s ≤ M → M < p * p → s < p
root_lt s M p a b = lt_of_not-le (λ (g : p ≤ s). not-le_of_lt b (le_trans (mul-le-mul g g) a))

module _ (q k s : ℕ) (P : 0 < q) (h : q < 2 ^ 24) (found : IsRoot s (digits q k % 2 ^ 64)) where
  is : IsRoot s (digits q k)
  is = subst (λ (m : ℕ). IsRoot s m) (digits_are q k P h) found

  few : s < 2 ^ 24
  few = root_lt s (digits q k) (2 ^ 24) is.0 (bounds q k P h).1

  many : 2 ^ 23 ≤ s
  many = root_le (2 ^ 23) s (digits q k) (bounds q k P h).0 is.1

expo_lt : (q k : ℕ) → k < 254 → expo q k / 2 < 4096
expo_lt q k h = go k (shift q) h
  where
    go : (k z : ℕ) → k < 254 → (k + 149 - z) / 2 < 4096
    go k z h = omega arith

pub overflow_sub-z : goal.overflow_sub-z
overflow_sub-z c = let h = (at46 c.args.q c.requires.0 c.requires.1).least in omega arith

pub overflow_cast-z : goal.overflow_cast-z
overflow_cast-z c = let h = (at46 c.args.q c.requires.0 c.requires.1).most in record { fits = omega arith }

pub overflow_sub-e : goal.overflow_sub-e
overflow_sub-e c = within c.args.q c.args.k c.requires.0 c.requires.1

pub overflow_add-m : goal.overflow_add-m
overflow_add-m c = let h = (at46 c.args.q c.requires.0 c.requires.1).most in record { fits = omega arith }

pub overflow_shl-m : goal.overflow_shl-m
overflow_shl-m c = let h = (at46 c.args.q c.requires.0 c.requires.1).most in omega arith

pub isqrt48-s-requires : goal.isqrt48-s-requires
isqrt48-s-requires c = subst (λ (n : ℕ). n < 2 ^ 48) (sym (digits_are c.args.q c.args.k c.requires.0 c.requires.1)) (bounds c.args.q c.args.k c.requires.0 c.requires.1).1

pub pack_f32-requires : goal.pack_f32-requires
pack_f32-requires c = (
  expo_lt c.args.q c.args.k c.requires.2,
  omega (arith, few c.args.q c.args.k c.isqrt48-s.result c.requires.0 c.requires.1 c.isqrt48-s.ensures),
  λ l. le_trans (many c.args.q c.args.k c.isqrt48-s.result c.requires.0 c.requires.1 c.isqrt48-s.ensures) (le-add_right _ 1),
)

above : (a s m m' : ℕ) → m' ≡ m → s < m' - a → a + s < m
above a s m m' e h = omega arith

not_above : (a s m m' : ℕ) → m' ≡ m → m' - a ≤ s → m ≤ a + s
not_above a s m m' e h = omega arith

pub returns-then-m-s : goal.returns-then-m-s
returns-then-m-s c =
    let a = c.args in
    let p = c.requires in
    let b = bounds a.q a.k p.0 p.1 in
    let s = c.isqrt48-s.result in
    c.pack_f32.ensures
    ∙ sym (root_up (a.q * 2 ^ a.k) (2 ^ 149) (digits a.q a.k) (expo a.q a.k / 2) s (pow_pos 149)
    (exponents a.q a.k (shift a.q) (expo a.q a.k % 2) (expo a.q a.k / 2) (meet a.k (shift a.q) (within a.q a.k p.0 p.1)))
    b.0 b.1 (is a.q a.k s p.0 p.1 c.isqrt48-s.ensures) (above (s * s) s (digits a.q a.k) (digits a.q a.k % 2 ^ 64) (digits_are a.q a.k p.0 p.1) c.if-m-s.true))

pub pack_f32-requires-2 : goal.pack_f32-requires-2
pack_f32-requires-2 c = (
  expo_lt c.args.q c.args.k c.requires.2,
  le_of_lt (few c.args.q c.args.k c.isqrt48-s.result c.requires.0 c.requires.1 c.isqrt48-s.ensures),
  λ l. many c.args.q c.args.k c.isqrt48-s.result c.requires.0 c.requires.1 c.isqrt48-s.ensures,
)

pub returns : goal.returns
returns c =
    let a = c.args in
    let p = c.requires in
    let b = bounds a.q a.k p.0 p.1 in
    let s = c.isqrt48-s.result in
    c.pack_f32-2.ensures
    ∙ sym (root_down (a.q * 2 ^ a.k) (2 ^ 149) (digits a.q a.k) (expo a.q a.k / 2) s (pow_pos 149)
    (exponents a.q a.k (shift a.q) (expo a.q a.k % 2) (expo a.q a.k / 2) (meet a.k (shift a.q) (within a.q a.k p.0 p.1)))
    b.0 b.1 (is a.q a.k s p.0 p.1 c.isqrt48-s.ensures) (not_above (s * s) s (digits a.q a.k) (digits a.q a.k % 2 ^ 64) (digits_are a.q a.k p.0 p.1) c.if-m-s.false))
