-- The remainder of two values: Rust's `%` of floats, which is C's fmod. It is not IEEE 754's remainder (§5.3.1), whose quotient is the nearest whole number: here the quotient is cut toward zero.
use Rattle.std.specs.Prelude.{ℕ, ◌-◌, ◌*◌, Bool, Float}
use Rattle.std.specs.Float.Ieee as Ieee
use Rattle.std.specs.Float.{Format, binary32}
use Rattle.ieee.specs.Integral.{TowardZero}
use Rattle.ieee.specs.Nearest.{IsValue}

-- NaN where one of the two is a NaN, x is infinite or y is zero; x itself where y is infinite; elsewhere the exact remainder, a zero too with the sign of x
abbrev pub rem_of : Float → Float → Float
rem_of x y = Ieee.rem binary32 x y

-- "The remainder has the same sign as the dividend and is computed as: x - (x / y).trunc() * y", and nothing of it is rounded: r is x less n times y, n being x / y cut toward zero.
-- X and Y are the sizes of x and y in units of the format's smallest value.
pub record Remainder (f : Format) (s : Bool) (X Y : ℕ) (r : Float) : Type 0 where
  pub n : ℕ
  pub quotient : TowardZero X Y n
  pub is : IsValue f s (X - n * Y) r
