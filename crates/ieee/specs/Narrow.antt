-- "f64 to f32 to nearest, ties to even, with subnormals and infinity": IEEE 754-2019 §5.4.2 (convertFormat) with §4.3.1 (roundTiesToEven).
use Rattle.std.specs.Prelude.{◌*◌, Float}
use Rattle.std.specs.Float.{nan, inf, fin, binary32}
use Rattle.std.specs.Float.Ieee.{up, down, round}

-- `round f s a c` is the value of the format f nearest to a / c with the sign s; that it is so is the law `round_nearest`
unfoldable pub narrow_of : Float → Float
narrow_of nan = nan
narrow_of (inf s) = inf s
narrow_of (fin s m e) = round binary32 s (m * up e) (down e)
