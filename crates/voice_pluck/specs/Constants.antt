-- Numbers that only the plucked string writes, each as the f32 pattern of the decimal that stands there.
use Rattle.std.specs.Prelude.{from_bits, Float}
use Rattle.std.specs.Float.{binary32}

-- 100.0
abbrev pub c100 : Float
c100 = from_bits binary32 0x42c80000

-- 215.0
abbrev pub c215 : Float
c215 = from_bits binary32 0x43570000

-- 400.0
abbrev pub c400 : Float
c400 = from_bits binary32 0x43c80000

-- NEG_LN_1000, -6.907_755: a fall by 60 dB
abbrev pub neg_ln1000 : Float
neg_ln1000 = from_bits binary32 0xc0dd0c54
