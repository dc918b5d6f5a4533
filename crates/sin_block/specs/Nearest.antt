-- The whole number nearest to a small t, by comparisons with halves.
use Rattle.std.specs.Prelude.{cond, Float}
use Rattle.std.specs.Float.{binary64}
use Rattle.std.specs.Float.Ieee.{of_bits, neg, lt}
use Rattle.ieee.specs.Numbers64.{d0, d0·5, d1, d2}

-- 1.5
abbrev pub d1·5 : Float
d1·5 = of_bits binary64 0x3ff8_0000_0000_0000

-- 2.5
abbrev pub d2·5 : Float
d2·5 = of_bits binary64 0x4004_0000_0000_0000

-- |t|, of any t but a zero or a NaN
unfoldable pub magnitude : Float → Float
magnitude t = cond (lt d0 t) t (neg t)

-- of an a above 0 and below 2.5
unfoldable pub nearest_above : Float → Float
nearest_above a = cond (lt a d0·5) d0 (cond (lt a d1·5) d1 d2)

-- of a t with such a magnitude
unfoldable pub nearest_of : Float → Float
nearest_of t = cond (lt d0 t) (nearest_above (magnitude t)) (neg (nearest_above (magnitude t)))
