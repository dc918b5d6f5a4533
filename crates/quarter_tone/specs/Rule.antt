-- "entry q is the f32 nearest to 440 × 2^((q − 138) / 24), judged in whole numbers by comparing 24th powers of the midpoints to its neighbours".
-- Every f32 is a whole multiple of the smallest, 2^-149, so the midpoint of two neighbours is a whole multiple of half of that, 2^-150.
use Prim.Native.Nat.{ℕ, ◌+◌, ◌-◌, ◌*◌, ◌/◌, ◌%◌, ◌^◌, ◌<◌, compare}
use Rattle.ieee.specs.Nearest.{Magnitude}

-- the f32 of the pattern b, which is positive and has all its 24 digits, in units of 2^-149
abbrev pub units_of : ℕ → ℕ
units_of b = (b % 2 ^ 23 + 2 ^ 23) * 2 ^ (b / 2 ^ 23 - 1)

-- the midpoint of the f32 of the pattern b and its neighbour above, in units of 2^-150
abbrev pub midpoint : ℕ → ℕ
midpoint b = units_of b + units_of (b + 1)

-- 440 × 2^((q − 138) / 24) in units of 2^-150, to the power 24: 3462 = 24 × 150 − 138
abbrev pub meant : ℕ → ℕ
meant q = 440 ^ 24 * 2 ^ (q + 3462)

-- the f32 of the pattern b is nearest: what is meant lies between the midpoints to its neighbours
pub record NearestTone (q b : ℕ) : Type 0 where
  pub above : midpoint (b - 1) ^ 24 < meant q
  pub below : meant q < midpoint b ^ 24

-- the same number for IEEE 754's words of rounding (`ieee/specs/Nearest`): how it compares with h times 2^-150
abbrev pub exact_tone : ℕ → Magnitude
exact_tone q h = compare (meant q) (h ^ 24)
