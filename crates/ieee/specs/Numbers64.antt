-- Numbers of an `f64` (d for a double; those of an `f32` begin with c) that several crates write, each as the pattern of the decimal that stands in the source; and a whole
-- number as an `f64`.
use Rattle.std.specs.Prelude.{ℕ, pos, Float}
use Rattle.std.specs.Float.{binary64}
use Rattle.std.specs.Float.Ieee.{of_bits, of_int}

-- n as an f64: n itself up to 2^53
abbrev pub f64 : ℕ → Float
f64 n = of_int binary64 (pos n)

-- 0.0
abbrev pub d0 : Float
d0 = of_bits binary64 0

-- 0.5
abbrev pub d0·5 : Float
d0·5 = of_bits binary64 0x3fe0_0000_0000_0000

-- 1.0
abbrev pub d1 : Float
d1 = of_bits binary64 0x3ff0_0000_0000_0000

-- 2.0
abbrev pub d2 : Float
d2 = of_bits binary64 0x4000_0000_0000_0000

-- 60.0
abbrev pub d60 : Float
d60 = of_bits binary64 0x404e_0000_0000_0000

-- 4503599627370496.0, which is 2^52: from there on every f64 is whole
abbrev pub d2^52 : Float
d2^52 = of_bits binary64 0x4330_0000_0000_0000
