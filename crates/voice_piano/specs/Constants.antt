-- Numbers that only the piano writes, each as the f32 pattern of the decimal that stands there.
use Rattle.std.specs.Prelude.{from_bits, Float}
use Rattle.std.specs.Float.{binary32}

-- 1e-6
abbrev pub c1e-6 : Float
c1e-6 = from_bits binary32 0x358637bd

-- 5e-5
abbrev pub c5e-5 : Float
c5e-5 = from_bits binary32 0x3851b717

-- 7e-5
abbrev pub c7e-5 : Float
c7e-5 = from_bits binary32 0x3892ccf7

-- 1.2e-3
abbrev pub c1·2e-3 : Float
c1·2e-3 = from_bits binary32 0x3a9d4952

-- 0.05
abbrev pub c0·05 : Float
c0·05 = from_bits binary32 0x3d4ccccd

-- 0.18
abbrev pub c0·18 : Float
c0·18 = from_bits binary32 0x3e3851ec

-- 0.381966
abbrev pub c0·381966 : Float
c0·381966 = from_bits binary32 0x3ec3910c

-- 0.618034
abbrev pub c0·618034 : Float
c0·618034 = from_bits binary32 0x3f1e377a

-- 1.0006
abbrev pub c1·0006 : Float
c1·0006 = from_bits binary32 0x3f8013a9

-- 9.0
abbrev pub c9 : Float
c9 = from_bits binary32 0x41100000

-- 55.0
abbrev pub c55 : Float
c55 = from_bits binary32 0x425c0000

-- 110.0
abbrev pub c110 : Float
c110 = from_bits binary32 0x42dc0000

-- std::f32::consts::PI, 3.14159265358979323846264338327950288
abbrev pub PI : Float
PI = from_bits binary32 0x40490fdb
