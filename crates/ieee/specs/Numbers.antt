-- Numbers of an `f32` that several crates write, each as the pattern of the decimal that stands in the source; and a whole number as an `f32`.
use Rattle.std.specs.Prelude.{ℕ, pos, Float}
use Rattle.std.specs.Float.{binary32}
use Rattle.std.specs.Float.Ieee.{of_bits, of_int}

-- n as an f32: n itself up to 2^24
abbrev pub f32 : ℕ → Float
f32 n = of_int binary32 (pos n)

-- 0
abbrev pub c0 : Float
c0 = of_bits binary32 0x00000000

-- 0.001
abbrev pub c0·001 : Float
c0·001 = of_bits binary32 0x3a83126f

-- 0.002
abbrev pub c0·002 : Float
c0·002 = of_bits binary32 0x3b03126f

-- 0.003
abbrev pub c0·003 : Float
c0·003 = of_bits binary32 0x3b449ba6

-- 0.004
abbrev pub c0·004 : Float
c0·004 = of_bits binary32 0x3b83126f

-- 0.006
abbrev pub c0·006 : Float
c0·006 = of_bits binary32 0x3bc49ba6

-- 0.008
abbrev pub c0·008 : Float
c0·008 = of_bits binary32 0x3c03126f

-- 0.01
abbrev pub c0·01 : Float
c0·01 = of_bits binary32 0x3c23d70a

-- 0.018
abbrev pub c0·018 : Float
c0·018 = of_bits binary32 0x3c9374bc

-- 0.03
abbrev pub c0·03 : Float
c0·03 = of_bits binary32 0x3cf5c28f

-- 0.12
abbrev pub c0·12 : Float
c0·12 = of_bits binary32 0x3df5c28f

-- 0.15
abbrev pub c0·15 : Float
c0·15 = of_bits binary32 0x3e19999a

-- 0.2
abbrev pub c0·2 : Float
c0·2 = of_bits binary32 0x3e4ccccd

-- 0.25
abbrev pub c0·25 : Float
c0·25 = of_bits binary32 0x3e800000

-- 0.3
abbrev pub c0·3 : Float
c0·3 = of_bits binary32 0x3e99999a

-- 0.4
abbrev pub c0·4 : Float
c0·4 = of_bits binary32 0x3ecccccd

-- 0.45
abbrev pub c0·45 : Float
c0·45 = of_bits binary32 0x3ee66666

-- 0.5
abbrev pub c0·5 : Float
c0·5 = of_bits binary32 0x3f000000

-- 0.55
abbrev pub c0·55 : Float
c0·55 = of_bits binary32 0x3f0ccccd

-- 0.6
abbrev pub c0·6 : Float
c0·6 = of_bits binary32 0x3f19999a

-- 0.8
abbrev pub c0·8 : Float
c0·8 = of_bits binary32 0x3f4ccccd

-- 0.9
abbrev pub c0·9 : Float
c0·9 = of_bits binary32 0x3f666666

-- 1
abbrev pub c1 : Float
c1 = of_bits binary32 0x3f800000

-- 2
abbrev pub c2 : Float
c2 = of_bits binary32 0x40000000

-- 3
abbrev pub c3 : Float
c3 = of_bits binary32 0x40400000

-- 4
abbrev pub c4 : Float
c4 = of_bits binary32 0x40800000

-- 10
abbrev pub c10 : Float
c10 = of_bits binary32 0x41200000

-- 20
abbrev pub c20 : Float
c20 = of_bits binary32 0x41a00000

-- 80
abbrev pub c80 : Float
c80 = of_bits binary32 0x42a00000

-- 1000
abbrev pub c1000 : Float
c1000 = of_bits binary32 0x447a0000

-- 1200
abbrev pub c1200 : Float
c1200 = of_bits binary32 0x44960000
