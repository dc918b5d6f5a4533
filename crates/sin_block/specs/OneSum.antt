-- The whole number nearest to a t of either sign, by a sum with 1.5 * 2^52.
use Rattle.std.specs.Prelude.{◌≡◌, true, Float}
use Rattle.std.specs.Float.{binary64}
use Rattle.std.specs.Float.Ieee.{of_bits, lt}
use Rattle.ieee.specs.Binary64.{◌⊞◌, ◌⊟◌, ◌⊠◌}

-- 6755399441055744.0
abbrev pub d1·5·2^52 : Float
d1·5·2^52 = of_bits binary64 0x4338_0000_0000_0000

-- 0.25
abbrev pub d0·25 : Float
d0·25 = of_bits binary64 0x3fd0_0000_0000_0000

-- 2^100
abbrev pub d2^100 : Float
d2^100 = of_bits binary64 0x4630_0000_0000_0000

-- 6.25
abbrev pub d6·25 : Float
d6·25 = of_bits binary64 0x4019_0000_0000_0000

unfoldable pub nearest_by_one_sum : Float → Float
nearest_by_one_sum t = t ⊞ d1·5·2^52 ⊟ d1·5·2^52

-- a t whose square is below the limit, and that is less than a half from that number
pub record SureBelow (limit t : Float) : Type 0 where
  pub below : lt (t ⊠ t) limit ≡ true
  pub near : lt ((t ⊟ nearest_by_one_sum t) ⊠ (t ⊟ nearest_by_one_sum t)) d0·25 ≡ true
