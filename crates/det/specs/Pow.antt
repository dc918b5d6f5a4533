-- fn powf of det.rs.
use Rattle.std.specs.Prelude.{false, cond, Float}
use Rattle.std.specs.Float.{nan, inf}
use Rattle.std.specs.Float.Ieee.{lt, eq}
use Rattle.ieee.specs.Binary64.{◌⊠◌}
use Rattle.ieee.specs.Numbers64.{d0, d1}
use Rattle.det.specs.Exp.{exp64}
use Rattle.det.specs.Ln.{ln64}

-- by an exponential
abbrev pub powf_by : (Float → Float) → Float → Float → Float
powf_by exp x y =
    cond (eq y d0) d1
    (cond (eq x d0) (cond (lt d0 y) d0 (inf false))
    (cond (lt x d0) nan
    (exp (y ⊠ ln64 x))))

unfoldable pub powf64 : Float → Float → Float
powf64 = powf_by exp64
