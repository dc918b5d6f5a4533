-- "max(a, b) is a if a > b, else b; min(a, b) is a if a < b, else b; clamp gives low if below low, high if above high, else the number itself."
use Rattle.std.specs.Prelude.{Bool, false, cond, Float}
use Rattle.std.specs.Float.Ieee.{lt, le}

abbrev pub max_of : Float → Float → Float
max_of a b = cond (lt b a) a b

abbrev pub min_of : Float → Float → Float
min_of a b = cond (lt a b) a b

abbrev pub clamp_of : Float → Float → Float → Float
clamp_of x low high = cond (lt x low) low (cond (lt high x) high x)

-- from low to high; a NaN is not
unfoldable pub within_of : Float → Float → Float → Bool
within_of x low high = cond (le low x) (le x high) false
