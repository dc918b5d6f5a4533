-- What `near_f64` gives of x: the rounded x where a test tells that it is the nearest whole number, and elsewhere nothing.
use Rattle.std.specs.Prelude.{Bool, false, cond, Float, None, Option, Some}
use Rattle.std.specs.Float.Ieee.{lt}
use Rattle.std.specs.Float.Ieee.Nearest.{closest}
use Rattle.ieee.specs.Numbers64.{d0, d0·5, d2^52}
use Rattle.ieee.specs.Binary64.{◌⊞◌}
use Rattle.ieee.specs.Whole.{whole, round_of}

-- x is above 0, below 2^52, and below n + 0.5, n being the nearest whole number, a half to the even one
abbrev pub nearby : Float → Bool
nearby x = cond (lt d0 x) (cond (lt x d2^52) (lt x (whole closest x ⊞ d0·5)) false) false

unfoldable pub near_of : Float → Option Float
near_of x = cond (nearby x) (Some (round_of x)) None
