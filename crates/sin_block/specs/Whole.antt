-- The whole number nearest to any t that is not too large, by a sum with 2^52.
use Rattle.std.specs.Prelude.{◌≡◌, true, cond, Float}
use Rattle.std.specs.Float.Ieee.{neg, lt}
use Rattle.ieee.specs.Binary64.{◌⊞◌, ◌⊟◌}
use Rattle.ieee.specs.Numbers64.{d0, d0·5, d2^52}
use Rattle.sin_block.specs.Nearest.{magnitude}

unfoldable pub summed_of : Float → Float
summed_of a = a ⊞ d2^52 ⊟ d2^52

-- an a above 0 and below 2^52, and no half that the sum takes down to an even number
pub record Sure (a : Float) : Type 0 where
  pub positive : lt d0 a ≡ true
  pub below : lt a d2^52 ≡ true
  pub near : lt a (summed_of a ⊞ d0·5) ≡ true

-- of a t with such a magnitude
unfoldable pub nearest_by_sum : Float → Float
nearest_by_sum t = cond (lt d0 t) (summed_of (magnitude t)) (neg (summed_of (magnitude t)))
