-- `trunc_of`, `round_of` and `floor_of` round to a whole number as IEEE 754 asks (specs/Integral), in any format. Assumes nothing.
use mathlib.Core.Path.{◌≡◌, refl, ap, ◌∙◌, subst}
use mathlib.Core.Bool.{Bool, true, false}
use Prim.Native.Nat.{ℕ, zero, suc, ◌+◌, ◌-◌, ◌*◌, ◌/◌, ◌^◌, ◌≤◌, ◌<◌}
use native.Mathlib.Nat.{add-mul, one-mul, lt_of_mul-lt-mul_right, lt_of_le_of_lt, lt_of_not-le, le_of_suc-le-suc, mul-le-mul_right, div-one, div-mul-le_self, div-lt_iff_lt-mul, mul-pos, zero-lt-suc}
use native.Mathlib.Omega.{arith}
use lib.IntN.{ℤ, pos, negsuc}
use lib.Dec.{T}
use lib.Pow.{pow_pos}
use lib.Ieee.{Float, nan, inf, fin, Format, prec, up, down, fits}
use lib.Ieee.Fits.{down_pos}
use lib.Ieee.Exact.{HasValue}
use Rattle.ieee.specs.Whole.{whole, cut, raised, half_up, trunc_of, round_of, floor_of}
use Rattle.ieee.specs.Integral.{TowardZero, FromZero, TiesToAway, TowardNegative, Integral}
use Rattle.ieee.proofs.Value.{value_unique}
use Rattle.ieee.proofs.Units.{fits_parts}
use Rattle.ieee.proofs.Exactly.{exactly_fits}
use Rattle.ieee.proofs.Between.{whole_valued}
use Rattle.ieee.proofs.Quotients.{raised_one, half_one}

-- ---- the three rules on a / c
module _ (a c : ℕ) (C : 0 < c) where
  past : (n d : ℕ) → 0 < d → n < (n / d + 1) * d
  past n d D = (div-lt_iff_lt-mul D).0 (omega arith)

  pub cut_asked : TowardZero a c (cut a c)
  cut_asked = record { no_greater = div-mul-le_self a c; closest = past a c C }

  pub raised_asked : FromZero a c (raised a c)
  raised_asked =
      let n = a + (c - 1) in
      let l : n / c * c ≤ n = div-mul-le_self n c in
      let h : n < (n / c + 1) * c = past n c C in
      record { no_less = least (n / c) h; closest = omega arith }
    where
      least : (q : ℕ) → a + (c - 1) < (q + 1) * c → a ≤ q * c
      least q h = omega arith

  pub half_asked : TiesToAway a c (half_up a c)
  half_asked =
      let n = a * 2 + c in
      let l : n / (c * 2) * (c * 2) ≤ n = div-mul-le_self n (c * 2) in
      let h : n < (n / (c * 2) + 1) * (c * 2) = past n (c * 2) (mul-pos C (zero-lt-suc 1)) in
      record { from = least (n / (c * 2)) l; below = most (n / (c * 2)) h }
    where
      least : (q : ℕ) → q * (c * 2) ≤ a * 2 + c → 2 * q * c ≤ 2 * a + c
      least q h = omega arith

      most : (q : ℕ) → a * 2 + c < (q + 1) * (c * 2) → 2 * a + c < 2 * (q + 1) * c
      most q h = omega arith

-- ---- a rule that raises by less than one gives a whole number that the format has
abbrev Close : (ℕ → ℕ → ℕ) → Type 0
Close g = (a c : ℕ) → 0 < c → g a c * c < a + c

raised_less : (q m d : ℕ) → 0 < d → q * d < m + d → q ≤ m
raised_less q m d D h = le_of_suc-le-suc (lt_of_not-le (λ (l : suc m ≤ q). off (mul-le-mul_right d l)))
  where
    more : (m d : ℕ) → 0 < d → m + d ≤ suc m * d
    more m (suc d) D = omega arith
    more m zero D = elim D [ ]

    off : suc m * d ≤ q * d → ⊥
    off l = omega (arith, more m d D)

module _ (g : ℕ → ℕ → ℕ) (one : (k : ℕ) → g k 1 ≡ k) (close : Close g) (f : Format) where
  held : (s : Bool) (m : ℕ) (e : ℤ) → T (fits f (fin s m e)) → T (fits f (whole g (fin s m e)))
  unfolding whole
  held s m (pos k) t = t
  held s m (negsuc k) t =
      let c = 2 ^ suc k in
      let C = pow_pos (suc k) in
      exactly_fits f s (g m c) 0 (lt_of_le_of_lt (raised_less (g m c) m c C (close m c C)) (small m t)) (omega arith)
    where
      small : (m : ℕ) → T (fits f (fin s m (negsuc k))) → m < 2 ^ prec f
      small zero t = pow_pos (prec f)
      small (suc m) t = (fits_parts f s m (negsuc k) t).0

  integral : (Asked : ℕ → Type 0) (s : Bool) (m : ℕ) (e : ℤ) → T (fits f (fin s m e)) → Asked (g (m * up e) (down e)) → Integral f s Asked (whole g (fin s m e))
  integral Asked s m e t h = record { q = g (m * up e) (down e); held = held s m e t; is = whole_valued g one s m e; asked = h }

cut_close : Close cut
cut_close a c C = omega (arith, (cut_asked a c C).no_greater)

half_close : Close half_up
half_close a c C = close (half_up a c) (half_asked a c C).from
  where
    close : (q : ℕ) → 2 * q * c ≤ 2 * a + c → q * c < a + c
    close q h = omega arith

-- ---- the laws, of a value that is m * up e / down e in size
-- roundToIntegralTowardZero
pub trunc_integral : (f : Format) (s : Bool) (m : ℕ) (e : ℤ) → T (fits f (fin s m e)) → Integral f s (TowardZero (m * up e) (down e)) (trunc_of (fin s m e))
trunc_integral f s m e t = integral cut div-one cut_close f (TowardZero (m * up e) (down e)) s m e t (cut_asked (m * up e) (down e) (down_pos e))

-- roundToIntegralTiesToAway
pub round_integral : (f : Format) (s : Bool) (m : ℕ) (e : ℤ) → T (fits f (fin s m e)) → Integral f s (TiesToAway (m * up e) (down e)) (round_of (fin s m e))
round_integral f s m e t = integral half_up half_one half_close f (TiesToAway (m * up e) (down e)) s m e t (half_asked (m * up e) (down e) (down_pos e))

-- roundToIntegralTowardNegative
pub floor_integral : (f : Format) (s : Bool) (m : ℕ) (e : ℤ) → T (fits f (fin s m e)) → Integral f s (TowardNegative s (m * up e) (down e)) (floor_of (fin s m e))
floor_integral f false m e t = trunc_integral f false m e t
floor_integral f true m e t =
    integral raised raised_one (λ a c C. (raised_asked a c C).closest) f (FromZero (m * up e) (down e)) true m e t (raised_asked (m * up e) (down e) (down_pos e))

-- ---- one value alone is as asked, since in each direction one size alone is
pub integral_unique : {f : Format} {s : Bool} {Asked : ℕ → Type 0} {y y' : Float} → ((p q : ℕ) → Asked p → Asked q → p ≡ q) → Integral f s Asked y → Integral f s Asked y' → y ≡ y'
integral_unique {f} {s} {Asked} {y} {y'} one h g =
    value_unique f f y y' s h.q 1 (omega arith) h.held g.held h.is (subst (λ (n : ℕ). HasValue y' s n 1) (one g.q h.q g.asked h.asked) g.is)

neither_below : (p q : ℕ) → p < q + 1 → q < p + 1 → p ≡ q
neither_below p q h g = omega arith

pub toward_zero_one : (a c p q : ℕ) → TowardZero a c p → TowardZero a c q → p ≡ q
toward_zero_one a c p q h g =
    neither_below p q (lt_of_mul-lt-mul_right c (lt_of_le_of_lt h.no_greater g.closest)) (lt_of_mul-lt-mul_right c (lt_of_le_of_lt g.no_greater h.closest))

pub from_zero_one : (a c p q : ℕ) → FromZero a c p → FromZero a c q → p ≡ q
from_zero_one a c p q h g = neither_below p q (lt_of_mul-lt-mul_right c (under p q h.closest g.no_less)) (lt_of_mul-lt-mul_right c (under q p g.closest h.no_less))
  where
    under : (p q : ℕ) → p * c < a + c → a ≤ q * c → p * c < (q + 1) * c
    under p q l m = let e : (q + 1) * c ≡ q * c + c = add-mul q 1 c ∙ ap (λ (x : ℕ). q * c + x) (one-mul c) in omega (arith, e, l, m)

pub ties_away_one : (a c p q : ℕ) → TiesToAway a c p → TiesToAway a c q → p ≡ q
ties_away_one a c p q h g =
    neither_below p q (halved p q (lt_of_mul-lt-mul_right c (lt_of_le_of_lt h.from g.below))) (halved q p (lt_of_mul-lt-mul_right c (lt_of_le_of_lt g.from h.below)))
  where
    halved : (p q : ℕ) → 2 * p < 2 * (q + 1) → p < q + 1
    halved p q l = omega arith

pub toward_negative_one : (s : Bool) (a c p q : ℕ) → TowardNegative s a c p → TowardNegative s a c q → p ≡ q
toward_negative_one false = toward_zero_one
toward_negative_one true = from_zero_one

-- so what is as IEEE 754 asks is what the definitions give
module _ (f : Format) (s : Bool) (m : ℕ) (e : ℤ) (t : T (fits f (fin s m e))) (y : Float) where
  pub trunc_only : Integral f s (TowardZero (m * up e) (down e)) y → y ≡ trunc_of (fin s m e)
  trunc_only h = integral_unique (toward_zero_one (m * up e) (down e)) h (trunc_integral f s m e t)

  pub round_only : Integral f s (TiesToAway (m * up e) (down e)) y → y ≡ round_of (fin s m e)
  round_only h = integral_unique (ties_away_one (m * up e) (down e)) h (round_integral f s m e t)

  pub floor_only : Integral f s (TowardNegative s (m * up e) (down e)) y → y ≡ floor_of (fin s m e)
  floor_only h = integral_unique (toward_negative_one s (m * up e) (down e)) h (floor_integral f s m e t)

-- a NaN gives a NaN, and an infinity itself
pub nan_stays : (trunc_of nan ≡ nan) × (round_of nan ≡ nan) × (floor_of nan ≡ nan)
unfolding whole
nan_stays = (refl, refl, refl)

pub infinity_stays : (s : Bool) → (trunc_of (inf s) ≡ inf s) × (round_of (inf s) ≡ inf s) × (floor_of (inf s) ≡ inf s)
unfolding whole
infinity_stays true = (refl, refl, refl)
infinity_stays false = (refl, refl, refl)
