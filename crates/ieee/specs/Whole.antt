-- Values written without rounding, and the whole numbers near a value: IEEE 754-2019 §5.9 (roundToIntegral).
use Rattle.std.specs.Prelude.{ℕ, suc, ◌+◌, ◌-◌, ◌*◌, ◌/◌, ◌^◌, Bool, cond, pos, negsuc, Float}
use Rattle.std.specs.Float.{nan, inf, fin, Format}
use Rattle.std.specs.Float.Ieee.{size, odd, sub}
use Rattle.ieee.specs.Sign.{sign_of}

-- ± q / 2 ^ l, negative where s is true. Nothing is rounded: `odd` only writes the fraction with an odd numerator.
abbrev pub exactly : Bool → ℕ → ℕ → Float
exactly s q l = odd (size q) s q 0 l

-- `g a c` is a whole number near a / c, and a / 1 for a whole a. A value with no negative exponent is whole itself. The sign stays, of a zero too.
unfoldable pub whole : (ℕ → ℕ → ℕ) → Float → Float
whole g nan = nan
whole g (inf s) = inf s
whole g (fin s m (pos k)) = fin s m (pos k)
whole g (fin s m (negsuc k)) = exactly s (g m (2 ^ suc k)) 0

-- a / c cut; raised; and to the nearest, a half raised. With the sign kept: toward zero, away from zero, and to nearest with halves away from zero.
abbrev pub cut : ℕ → ℕ → ℕ
cut a c = a / c

abbrev pub raised : ℕ → ℕ → ℕ
raised a c = (a + (c - 1)) / c

abbrev pub half_up : ℕ → ℕ → ℕ
half_up a c = (a * 2 + c) / (c * 2)

-- "truncation": roundToIntegralTowardZero
abbrev pub trunc_of : Float → Float
trunc_of = whole cut

-- "rounding half away from zero": roundToIntegralTiesToAway
abbrev pub round_of : Float → Float
round_of = whole half_up

-- "floor": roundToIntegralTowardNegative. Below zero that is away from zero.
abbrev pub floor_of : Float → Float
floor_of x = cond (sign_of x) (whole raised x) (whole cut x)

-- Rust's `fract`: x less its truncation, one subtraction of the format
abbrev pub fract_of : Format → Float → Float
fract_of f x = sub f x (trunc_of x)
