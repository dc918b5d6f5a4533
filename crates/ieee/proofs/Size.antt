-- A float whose magnitude is at most a whole number: products, sums, and what is cut of it. Assumes nothing.
use mathlib.Core.Path.{sym, subst}
use Prim.Native.Nat.{ℕ, ◌+◌, ◌*◌, ◌≤◌, ◌<◌}
use native.Mathlib.Nat.{mul-one}
use native.Mathlib.Omega.{arith}
use mathlib.Core.Bool.{Bool, true, false, cond}
use lib.Dec.{lit<}
use lib.Ieee.{Float, nan, inf, fin, Format, up, down, add, mul, to_unsigned}
use lib.Ieee.Exact.{HasValue}
use Rattle.ieee.proofs.Bounded.{Bounded, Exact, value_bounded, mul_bounded, add_bounded}
use Rattle.ieee.proofs.Cut.{cut_at_most}

-- x is finite, and b or less in size: `Bounded` without its denominator
abbrev pub Within : Float → ℕ → Type 0
Within nan b = ⊥
Within (inf s) b = ⊥
Within (fin s m e) b = m * up e ≤ b * down e

module _ (b : ℕ) where
  to : (x : Float) → Within x b → Bounded x b 1
  to nan w = w
  to (inf s) w = w
  to (fin s m e) w = subst (λ (n : ℕ). n ≤ b * down e) (sym (mul-one (m * up e))) w

  from : (x : Float) → Bounded x b 1 → Within x b
  from nan w = w
  from (inf s) w = w
  from (fin s m e) w = subst (λ (n : ℕ). n ≤ b * down e) (mul-one (m * up e)) w

pub value_within : (x : Float) (s : Bool) (a c b : ℕ) → 0 < c → HasValue x s a c → a ≤ b * c → Within x b
value_within x s a c b C v h = from b x (value_bounded a c b 1 C x s v (omega arith))

-- ---- products and sums, where the bound is a value of the format
module _ (f : Format) (a b : ℕ) where
  pub mul_within : (x y : Float) → Exact f (a * b) 1 → Within x a → Within y b → Within (mul f x y) (a * b)
  mul_within x y v u w = from (a * b) (mul f x y) (mul_bounded f a 1 b 1 (a * b) 1 (lit< tt) (lit< tt) (lit< tt) v x y (omega arith) (to a x u) (to b y w))

  pub add_within : (x y : Float) → Exact f (a + b) 1 → Within x a → Within y b → Within (add f x y) (a + b)
  add_within x y v u w = from (a + b) (add f x y) (add_bounded f a 1 b 1 (a + b) 1 (lit< tt) (lit< tt) (lit< tt) v x y (omega arith) (to a x u) (to b y w))

-- ---- a choice, and the cut
pub cond_within : (t : Bool) (x y : Float) (b : ℕ) → Within x b → Within y b → Within (cond t x y) b
cond_within true x y b u w = u
cond_within false x y b u w = w

pub cut_within : (k : ℕ) (x : Float) (b : ℕ) → Within x b → to_unsigned k x ≤ b
cut_within k nan b w = absurd w
cut_within k (inf s) b w = absurd w
cut_within k (fin true m e) b w = cut_at_most k (fin true m e) b tt
cut_within k (fin false m e) b w = cut_at_most k (fin false m e) b (to b (fin false m e) w)
