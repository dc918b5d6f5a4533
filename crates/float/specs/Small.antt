-- What the steps of `whole` ask of their argument.
use Rattle.std.specs.Prelude.{◌≡◌, ◌-◌, true, false, pos, Float}
use Rattle.std.specs.Float.{fin, Format}
use Rattle.std.specs.Float.Ieee.{prec, lt}

-- above zero, and below the power of two from which on every value of the format is whole
pub record Small (f : Format) (x : Float) : Type 0 where
  pub positive : lt (fin false 0 (pos 0)) x ≡ true
  pub below : lt x (fin false 1 (pos (prec f - 1))) ≡ true
