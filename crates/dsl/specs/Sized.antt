-- "Sized" means finite and of magnitude at most 65,536.
use Rattle.std.specs.Prelude.{List, [], ◌∷◌, Bool, true, false, cond, Float}
use Rattle.std.specs.Float.{binary32}
use Rattle.std.specs.Float.Ieee.{of_bits, le}
use Rattle.ieee.specs.Sign.{abs_of}
use Rattle.dsl.specs.declared.pitch.Pitch.{Pitch}
use Rattle.dsl.specs.declared.pitch.Pitch.TheVariants.{Const, Curve}

-- 65,536
abbrev pub c65536 : Float
c65536 = of_bits binary32 0x47800000

-- no infinity is at most 65,536, and of a NaN every comparison is false
unfoldable pub sized_of : Float → Bool
sized_of x = le (abs_of x) c65536

unfoldable pub all_sized : List Float → Bool
all_sized [] = true
all_sized (x ∷ xs) = cond (sized_of x) (all_sized xs) false

-- "constant pitch not sized": a curve's values are judged with its lane
unfoldable pub pitch_sized : Pitch → Bool
pitch_sized (Const x) = sized_of x
pitch_sized (Curve offset) = true
