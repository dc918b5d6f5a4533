-- The organ's drawbars: "five pairs of ratio and level". `BARS` of `organ_note` in render/seq.rs is what an organ has where none are set.
use Rattle.std.specs.Prelude.{Float}
use Rattle.std.specs.Float.{binary32}
use Rattle.std.specs.Float.Ieee.{of_bits}
use Rattle.ieee.specs.Numbers.{c0·3, c0·45, c1, c2, c4}
use Rattle.dsl.specs.declared.knobs.Drawbars.{Drawbars}

-- 0.22
abbrev pub c0·22 : Float
c0·22 = of_bits binary32 0x3e6147ae

-- 6.0
abbrev pub c6 : Float
c6 = of_bits binary32 0x40c00000

-- 8.0
abbrev pub c8 : Float
c8 = of_bits binary32 0x41000000

abbrev pub BARS : Drawbars
BARS = record {
  ratio1 = c1;
  level1 = c0·45;
  ratio2 = c2;
  level2 = c1;
  ratio3 = c4;
  level3 = c0·45;
  ratio4 = c6;
  level4 = c0·3;
  ratio5 = c8;
  level5 = c0·22;
}
