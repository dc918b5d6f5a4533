-- How IEEE 754-2019 has a value rounded to a whole number (§5.9), in the directions of §4.3, for any format. Definitions only.
-- Delivered is one of the whole numbers that the format has; a zero gives the zero of the same sign, and an infinity itself.
use Rattle.std.specs.Prelude.{ℕ, ◌+◌, ◌*◌, ◌≤◌, ◌<◌, Bool, true, false, T, Float}
use Rattle.std.specs.Float.{Format}
use Rattle.std.specs.Float.Ieee.{fits}
use Rattle.std.specs.Float.Ieee.Exact.{HasValue}

-- ---- a direction, of an operand that is a / c in size and a result that is q

-- roundToIntegralTowardZero: the closest to the operand that is no greater in magnitude
pub record TowardZero (a c q : ℕ) : Type 0 where
  pub no_greater : q * c ≤ a
  pub closest : a < (q + 1) * c

-- away from zero: the closest to the operand that is no less in magnitude
pub record FromZero (a c q : ℕ) : Type 0 where
  pub no_less : a ≤ q * c
  pub closest : q * c < a + c

-- roundToIntegralTiesToAway: the nearest to the operand, and of two equally near the one larger in magnitude
pub record TiesToAway (a c q : ℕ) : Type 0 where
  pub from : 2 * q * c ≤ 2 * a + c
  pub below : 2 * a + c < 2 * (q + 1) * c

-- roundToIntegralTowardNegative: the closest to the operand that is no greater than it. Below zero (s is true) that is the one no less in magnitude.
abbrev pub TowardNegative : Bool → ℕ → ℕ → ℕ → Type 0
TowardNegative false = TowardZero
TowardNegative true = FromZero

-- y is a whole number of the format f with the sign s, and its size is as asked
pub record Integral (f : Format) (s : Bool) (Asked : ℕ → Type 0) (y : Float) : Type 0 where
  pub q : ℕ
  pub held : T (fits f y)
  pub is : HasValue y s q 1
  pub asked : Asked q
