-- The numbers that narrowing takes.
use Rattle.std.specs.Prelude.{Float}
use Rattle.std.specs.Float.{binary64}
use Rattle.std.specs.Float.Ieee.{of_bits}

-- 4.0
abbrev pub d4 : Float
d4 = of_bits binary64 0x4010_0000_0000_0000

-- 2^-97, which is 2^29 times the smallest normal f32
abbrev pub d2^-97 : Float
d2^-97 = of_bits binary64 0x39e0_0000_0000_0000
