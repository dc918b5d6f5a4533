-- What the cast of a rounded f64 asks of it.
use Rattle.std.specs.Prelude.{Bool, true, false, pos, negsuc, Float}
use Rattle.std.specs.Float.{nan, inf, fin}

-- no negative exponent, so no fraction
unfoldable pub no_fraction : Float → Bool
no_fraction nan = true
no_fraction (inf s) = true
no_fraction (fin s m (pos e)) = true
no_fraction (fin s m (negsuc e)) = false
