-- Numbers of an `f32` that only the groove names, each by its pattern.
use Rattle.std.specs.Prelude.{from_bits, Float}
use Rattle.std.specs.Float.{binary32}

-- 60
abbrev pub c60 : Float
c60 = from_bits binary32 0x42700000
