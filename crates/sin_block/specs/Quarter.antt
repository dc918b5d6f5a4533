-- The sine at a from q, the number of quarter turns from -2 to 2 that a was measured from, with both polynomials worked out.
use Rattle.std.specs.Prelude.{cond, Float}
use Rattle.std.specs.Float.Ieee.{neg, lt, eq}
use Rattle.ieee.specs.Binary64.{◌⊟◌, ◌⊠◌}
use Rattle.ieee.specs.Numbers64.{d0·5, d1, d2}
use Rattle.trig.specs.Trig.{sin_poly, cos_poly}

-- a cosine after one quarter turn either way
unfoldable pub poly_at : Float → Float → Float
poly_at q a = cond (eq (q ⊠ q) d1) (cos_poly a) (sin_poly a)

-- turned over at -2, -1 and 2, which are further than the root of 2 from 1 / 2
unfoldable pub sine_at : Float → Float → Float
sine_at q a = cond (lt ((q ⊟ d0·5) ⊠ (q ⊟ d0·5)) d2) (poly_at q a) (neg (poly_at q a))
