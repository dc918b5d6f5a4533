-- Numbers of render/kit.rs that `ieee/specs/Numbers` doesn't have, each as the pattern of the decimal that stands in the source.
use Rattle.std.specs.Prelude.{Float}
use Rattle.std.specs.Float.{binary32}
use Rattle.std.specs.Float.Ieee.{of_bits}

-- 0.0015
abbrev pub c0·0015 : Float
c0·0015 = of_bits binary32 0x3ac49ba6

-- 0.007
abbrev pub c0·007 : Float
c0·007 = of_bits binary32 0x3be56042

-- 0.009
abbrev pub c0·009 : Float
c0·009 = of_bits binary32 0x3c1374bc

-- 0.012
abbrev pub c0·012 : Float
c0·012 = of_bits binary32 0x3c449ba6

-- 0.02
abbrev pub c0·02 : Float
c0·02 = of_bits binary32 0x3ca3d70a

-- 0.025
abbrev pub c0·025 : Float
c0·025 = of_bits binary32 0x3ccccccd

-- 0.027
abbrev pub c0·027 : Float
c0·027 = of_bits binary32 0x3cdd2f1b

-- 0.028
abbrev pub c0·028 : Float
c0·028 = of_bits binary32 0x3ce56042

-- 0.032
abbrev pub c0·032 : Float
c0·032 = of_bits binary32 0x3d03126f

-- 0.035
abbrev pub c0·035 : Float
c0·035 = of_bits binary32 0x3d0f5c29

-- 0.04
abbrev pub c0·04 : Float
c0·04 = of_bits binary32 0x3d23d70a

-- 0.05
abbrev pub c0·05 : Float
c0·05 = of_bits binary32 0x3d4ccccd

-- 0.055
abbrev pub c0·055 : Float
c0·055 = of_bits binary32 0x3d6147ae

-- 0.06
abbrev pub c0·06 : Float
c0·06 = of_bits binary32 0x3d75c28f

-- 0.07
abbrev pub c0·07 : Float
c0·07 = of_bits binary32 0x3d8f5c29

-- 0.08
abbrev pub c0·08 : Float
c0·08 = of_bits binary32 0x3da3d70a

-- 0.1
abbrev pub c0·1 : Float
c0·1 = of_bits binary32 0x3dcccccd

-- 0.11
abbrev pub c0·11 : Float
c0·11 = of_bits binary32 0x3de147ae

-- 0.13
abbrev pub c0·13 : Float
c0·13 = of_bits binary32 0x3e051eb8

-- 0.14
abbrev pub c0·14 : Float
c0·14 = of_bits binary32 0x3e0f5c29

-- 0.16
abbrev pub c0·16 : Float
c0·16 = of_bits binary32 0x3e23d70a

-- 0.18
abbrev pub c0·18 : Float
c0·18 = of_bits binary32 0x3e3851ec

-- 0.22
abbrev pub c0·22 : Float
c0·22 = of_bits binary32 0x3e6147ae

-- 0.26
abbrev pub c0·26 : Float
c0·26 = of_bits binary32 0x3e851eb8

-- 0.28
abbrev pub c0·28 : Float
c0·28 = of_bits binary32 0x3e8f5c29

-- 0.32
abbrev pub c0·32 : Float
c0·32 = of_bits binary32 0x3ea3d70a

-- 0.35
abbrev pub c0·35 : Float
c0·35 = of_bits binary32 0x3eb33333

-- 0.48
abbrev pub c0·48 : Float
c0·48 = of_bits binary32 0x3ef5c28f

-- 0.7
abbrev pub c0·7 : Float
c0·7 = of_bits binary32 0x3f333333

-- 0.85
abbrev pub c0·85 : Float
c0·85 = of_bits binary32 0x3f59999a

-- 1.1
abbrev pub c1·1 : Float
c1·1 = of_bits binary32 0x3f8ccccd

-- 1.2
abbrev pub c1·2 : Float
c1·2 = of_bits binary32 0x3f99999a

-- 1.3
abbrev pub c1·3 : Float
c1·3 = of_bits binary32 0x3fa66666

-- 1.4
abbrev pub c1·4 : Float
c1·4 = of_bits binary32 0x3fb33333

-- 1.5
abbrev pub c1·5 : Float
c1·5 = of_bits binary32 0x3fc00000

-- 1.59
abbrev pub c1·59 : Float
c1·59 = of_bits binary32 0x3fcb851f

-- 1.6
abbrev pub c1·6 : Float
c1·6 = of_bits binary32 0x3fcccccd

-- 6
abbrev pub c6 : Float
c6 = of_bits binary32 0x40c00000

-- 24
abbrev pub c24 : Float
c24 = of_bits binary32 0x41c00000

-- 26
abbrev pub c26 : Float
c26 = of_bits binary32 0x41d00000

-- 45
abbrev pub c45 : Float
c45 = of_bits binary32 0x42340000

-- 48
abbrev pub c48 : Float
c48 = of_bits binary32 0x42400000

-- 52
abbrev pub c52 : Float
c52 = of_bits binary32 0x42500000

-- 55
abbrev pub c55 : Float
c55 = of_bits binary32 0x425c0000

-- 68
abbrev pub c68 : Float
c68 = of_bits binary32 0x42880000

-- 90
abbrev pub c90 : Float
c90 = of_bits binary32 0x42b40000

-- 105
abbrev pub c105 : Float
c105 = of_bits binary32 0x42d20000

-- 140
abbrev pub c140 : Float
c140 = of_bits binary32 0x430c0000

-- 145
abbrev pub c145 : Float
c145 = of_bits binary32 0x43110000

-- 175
abbrev pub c175 : Float
c175 = of_bits binary32 0x432f0000

-- 185
abbrev pub c185 : Float
c185 = of_bits binary32 0x43390000

-- 190
abbrev pub c190 : Float
c190 = of_bits binary32 0x433e0000

-- 205.3
abbrev pub c205·3 : Float
c205·3 = of_bits binary32 0x434d4ccd

-- 304.4
abbrev pub c304·4 : Float
c304·4 = of_bits binary32 0x43983333

-- 330
abbrev pub c330 : Float
c330 = of_bits binary32 0x43a50000

-- 369.6
abbrev pub c369·6 : Float
c369·6 = of_bits binary32 0x43b8cccd

-- 400
abbrev pub c400 : Float
c400 = of_bits binary32 0x43c80000

-- 420
abbrev pub c420 : Float
c420 = of_bits binary32 0x43d20000

-- 522.7
abbrev pub c522·7 : Float
c522·7 = of_bits binary32 0x4402accd

-- 540
abbrev pub c540 : Float
c540 = of_bits binary32 0x44070000

-- 555
abbrev pub c555 : Float
c555 = of_bits binary32 0x440ac000

-- 700
abbrev pub c700 : Float
c700 = of_bits binary32 0x442f0000

-- 800
abbrev pub c800 : Float
c800 = of_bits binary32 0x44480000

-- 845
abbrev pub c845 : Float
c845 = of_bits binary32 0x44534000

-- 900
abbrev pub c900 : Float
c900 = of_bits binary32 0x44610000

-- 1600
abbrev pub c1600 : Float
c1600 = of_bits binary32 0x44c80000

-- 1700
abbrev pub c1700 : Float
c1700 = of_bits binary32 0x44d48000

-- 2000
abbrev pub c2000 : Float
c2000 = of_bits binary32 0x44fa0000

-- 2100
abbrev pub c2100 : Float
c2100 = of_bits binary32 0x45034000

-- 2200
abbrev pub c2200 : Float
c2200 = of_bits binary32 0x45098000

-- 2500
abbrev pub c2500 : Float
c2500 = of_bits binary32 0x451c4000

-- 2600
abbrev pub c2600 : Float
c2600 = of_bits binary32 0x45228000

-- 3000
abbrev pub c3000 : Float
c3000 = of_bits binary32 0x453b8000

-- 3170
abbrev pub c3170 : Float
c3170 = of_bits binary32 0x45462000

-- 3300
abbrev pub c3300 : Float
c3300 = of_bits binary32 0x454e4000

-- 3500
abbrev pub c3500 : Float
c3500 = of_bits binary32 0x455ac000

-- 4000
abbrev pub c4000 : Float
c4000 = of_bits binary32 0x457a0000

-- 4200
abbrev pub c4200 : Float
c4200 = of_bits binary32 0x45834000

-- 5200
abbrev pub c5200 : Float
c5200 = of_bits binary32 0x45a28000

-- 5240
abbrev pub c5240 : Float
c5240 = of_bits binary32 0x45a3c000

-- 5500
abbrev pub c5500 : Float
c5500 = of_bits binary32 0x45abe000

-- 5800
abbrev pub c5800 : Float
c5800 = of_bits binary32 0x45b54000

-- 6000
abbrev pub c6000 : Float
c6000 = of_bits binary32 0x45bb8000

-- 6500
abbrev pub c6500 : Float
c6500 = of_bits binary32 0x45cb2000

-- 7000
abbrev pub c7000 : Float
c7000 = of_bits binary32 0x45dac000

-- 8000
abbrev pub c8000 : Float
c8000 = of_bits binary32 0x45fa0000

-- 8130
abbrev pub c8130 : Float
c8130 = of_bits binary32 0x45fe1000

-- 8700
abbrev pub c8700 : Float
c8700 = of_bits binary32 0x4607f000

-- 9000
abbrev pub c9000 : Float
c9000 = of_bits binary32 0x460ca000

-- 11000
abbrev pub c11000 : Float
c11000 = of_bits binary32 0x462be000

-- 11500
abbrev pub c11500 : Float
c11500 = of_bits binary32 0x4633b000

-- 12000
abbrev pub c12000 : Float
c12000 = of_bits binary32 0x463b8000
