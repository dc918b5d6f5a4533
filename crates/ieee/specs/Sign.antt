-- The sign of a value, the absolute value, IEEE 754-2019 §5.5.1 (abs), and Rust's `signum`.
use Rattle.std.specs.Prelude.{Bool, false, pos, Float}
use Rattle.std.specs.Float.{nan, inf, fin}

-- whether the sign is minus, of a zero too
abbrev pub sign_of : Float → Bool
sign_of nan = false
sign_of (inf s) = s
sign_of (fin s m e) = s

-- the same with a plus sign
unfoldable pub abs_of : Float → Float
abs_of nan = nan
abs_of (inf s) = inf false
abs_of (fin s m e) = fin false m e

-- Rust's `signum`: 1 with the sign of the number, of a zero too, and a NaN at a NaN
unfoldable pub signum_of : Float → Float
signum_of nan = nan
signum_of (inf s) = fin s 1 (pos 0)
signum_of (fin s m e) = fin s 1 (pos 0)
