-- A float between two fractions: what a clamp gives, and what a quotient gives. Assumes nothing.
use mathlib.Core.Path.{◌≡◌, refl, sym, subst}
use mathlib.Core.Logic.{◌⊎◌, inl, inr}
use Prim.Native.Nat.{ℕ, ◌*◌, ◌≤◌, ◌<◌}
use native.Mathlib.Nat.{le_refl, mul-pos}
use mathlib.Core.Bool.{Bool, true, false, cond}
use lib.Dec.{T}
use lib.Ieee.{Float, nan, inf, fin, Format, up, down, le, lt, div, round}
use lib.Ieee.Fits.{down_pos}
use lib.Ieee.Exact.{HasValue}
use lib.Ieee.Order.{round_mono}
use Rattle.ieee.specs.Order.{clamp_of}
use Rattle.ieee.proofs.Value.{div_value}
use Rattle.ieee.proofs.Bounds.{AtMost, AtLeast, le_at_most, le_at_least, not_lt_at_least, not_lt_at_most}

-- x is a number from a / c to b / d
pub record Between (a c b d : ℕ) (x : Float) : Type 0 where
  pub num : ℕ
  pub den : ℕ
  pub den_pos : 0 < den
  pub value : HasValue x false num den
  pub least : a * den ≤ num * c
  pub most : num * d ≤ b * den

pub between : (x : Float) (a c b d : ℕ) → AtLeast x a c → AtMost x b d → Between a c b d x
between nan a c b d l m = absurd l
between (inf true) a c b d l m = absurd l
between (inf false) a c b d l m = absurd m
between (fin true n e) a c b d l m = absurd l
between (fin false n e) a c b d l m = record { num = n * up e; den = down e; den_pos = down_pos e; value = (refl, refl); least = l; most = m }

-- ---- clamped to two bounds, the lower above 0
module _ (lo hi : Float) (a c b d : ℕ) (A : 0 < a) (C : 0 < c) (D : 0 < d) (v : HasValue lo false a c) (w : HasValue hi false b d) (h : a * d ≤ b * c) where
  low : Between a c b d lo
  low = record { num = a; den = c; den_pos = C; value = v; least = le_refl (a * c); most = h }

  high : Between a c b d hi
  high = record { num = b; den = d; den_pos = D; value = w; least = h; most = le_refl (b * d) }

  pub clamp_between : (x : Float) → (clamp_of x lo hi ≡ nan) ⊎ Between a c b d (clamp_of x lo hi)
  clamp_between x = pick (lt x lo) (lt hi x) (not_lt_at_least x lo a c A v) (not_lt_at_most x hi b d w)
    where
      both : (x ≡ nan) ⊎ AtLeast x a c → (x ≡ nan) ⊎ AtMost x b d → (x ≡ nan) ⊎ Between a c b d x
      both (inl e) q = inl e
      both (inr l) (inl e) = inl e
      both (inr l) (inr m) = inr (between x a c b d l m)

      pick : (s t : Bool) → (s ≡ false → (x ≡ nan) ⊎ AtLeast x a c) → (t ≡ false → (x ≡ nan) ⊎ AtMost x b d) → (cond s lo (cond t hi x) ≡ nan) ⊎ Between a c b d (cond s lo (cond t hi x))
      pick true t p q = inr low
      pick false true p q = inr high
      pick false false p q = both (p refl) (q refl)

-- ---- a quotient of x, which is a / c, by y, which is n / e, beside a fraction p / q that rounds to b / d
module _ (f : Format) (x y : Float) (a c n e : ℕ) (C : 0 < c) (N : 0 < n) (E : 0 < e) (v : HasValue x false a c) (w : HasValue y false n e)
    (p q b d : ℕ) (Q : 0 < q) (r : HasValue (round f false p q) false b d) where
  quotient : div f x y ≡ round f false (a * e) (n * c)
  quotient = div_value f x y false false a c n e C N E v w

  pub div_at_most : a * e * q ≤ p * (n * c) → AtMost (div f x y) b d
  div_at_most h =
      le_at_most (div f x y) (round f false p q) b d r
      (subst (λ (z : Float). T (le z (round f false p q))) (sym quotient) (round_mono f (a * e) (n * c) p q (mul-pos N C) Q h))

  pub div_at_least : 0 < b → p * (n * c) ≤ a * e * q → AtLeast (div f x y) b d
  div_at_least B h =
      le_at_least (div f x y) (round f false p q) b d B r
      (subst (λ (z : Float). T (le (round f false p q) z)) (sym quotient) (round_mono f p q (a * e) (n * c) Q (mul-pos N C) h))
