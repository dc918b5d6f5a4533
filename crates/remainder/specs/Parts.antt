-- A pattern p of an f32 without its sign, below the infinity's: the value is significand_of p × 2 ^ place_of p units of the smallest value. Definitions only.
use Rattle.std.specs.Prelude.{ℕ, ◌+◌, ◌-◌, ◌*◌, ◌/◌, ◌%◌, ◌^◌, cond, ltb}

-- the digits' field, and where the exponent's field is not 0 the leading digit before it
unfoldable pub significand_of : ℕ → ℕ
significand_of p = cond (ltb p (2 ^ 23)) (p % 2 ^ 23) (p % 2 ^ 23 + 2 ^ 23)

-- the exponent's field less 1, and 0 where it is 0
unfoldable pub place_of : ℕ → ℕ
place_of p = p / 2 ^ 23 - 1

-- the value in such units
abbrev pub units_of : ℕ → ℕ
units_of p = significand_of p * 2 ^ place_of p
