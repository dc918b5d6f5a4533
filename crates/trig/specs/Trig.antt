-- The part of det.rs from `PI2_HI` to `cos`: sine and cosine.
use Rattle.std.specs.Prelude.{ℕ, ◌-◌, ◌%◌, cond, ℤ, pos, negsuc, ◌==◌, from_bits, Float}
use Rattle.std.specs.Float.{binary64}
use Rattle.std.specs.Float.Ieee.{neg, of_int, to_signed}
use Rattle.ieee.specs.Binary64.{◌⊞◌, ◌⊟◌, ◌⊠◌, ◌⧄◌}
use Rattle.ieee.specs.Whole.{round_of}
use Rattle.ieee.specs.Numbers64.{d0·5, d1}

-- 2π in three parts
-- TAU, 6.28318530717958647692528676655900577
abbrev pub PI2·HI : Float
PI2·HI = from_bits binary64 0x4019_21fb_5444_2d18

-- 2.44929359829470641445e-16
abbrev pub PI2·MID : Float
PI2·MID = from_bits binary64 0x3cb1_a626_3314_5c07

-- 1.74968224062658175647e-32
abbrev pub PI2·LO : Float
PI2·LO = from_bits binary64 0x3956_b651_0916_84d4

-- 1 / (2π): 1.59154943091895335769e-01
abbrev pub INV·PI2 : Float
INV·PI2 = from_bits binary64 0x3fc4_5f30_6dc9_c883

-- π / 2: 1.57079632679489661923132169163975144
abbrev pub FRAC·PI·2 : Float
FRAC·PI·2 = from_bits binary64 0x3ff9_21fb_5444_2d18

-- -1.66666666666666324348e-01
abbrev pub S1 : Float
S1 = from_bits binary64 0xbfc5_5555_5555_5549

-- 8.33333333332248946124e-03
abbrev pub S2 : Float
S2 = from_bits binary64 0x3f81_1111_1110_f8a6

-- -1.98412698298579493134e-04
abbrev pub S3 : Float
S3 = from_bits binary64 0xbf2a_01a0_19c1_61d5

-- 2.75573137070700676789e-06
abbrev pub S4 : Float
S4 = from_bits binary64 0x3ec7_1de3_57b1_fe7d

-- -2.50507602534068634195e-08
abbrev pub S5 : Float
S5 = from_bits binary64 0xbe5a_e5e6_8a2b_9ceb

-- 1.58969099521155010221e-10
abbrev pub S6 : Float
S6 = from_bits binary64 0x3de5_d93a_5acf_d57c

-- fn sin_poly: sine near zero
unfoldable pub sin_poly : Float → Float
sin_poly x =
    let z = x ⊠ x in
    x ⊞ x ⊠ z ⊠ (S1 ⊞ z ⊠ (S2 ⊞ z ⊠ (S3 ⊞ z ⊠ (S4 ⊞ z ⊠ (S5 ⊞ z ⊠ S6)))))

-- 4.16666666666666019037e-02
abbrev pub C1 : Float
C1 = from_bits binary64 0x3fa5_5555_5555_554c

-- -1.38888888888741095749e-03
abbrev pub C2 : Float
C2 = from_bits binary64 0xbf56_c16c_16c1_5177

-- 2.48015872894767294178e-05
abbrev pub C3 : Float
C3 = from_bits binary64 0x3efa_01a0_19cb_1590

-- -2.75573143513906633035e-07
abbrev pub C4 : Float
C4 = from_bits binary64 0xbe92_7e4f_809c_52ad

-- 2.08757232129817482790e-09
abbrev pub C5 : Float
C5 = from_bits binary64 0x3e21_ee9e_bdb4_b1c4

-- -1.13596475577881948265e-11
abbrev pub C6 : Float
C6 = from_bits binary64 0xbda8_fae9_be88_38d4

-- fn cos_poly: cosine near zero
unfoldable pub cos_poly : Float → Float
cos_poly x =
    let z = x ⊠ x in
    d1 ⊟ d0·5 ⊠ z ⊞ z ⊠ z ⊠ (C1 ⊞ z ⊠ (C2 ⊞ z ⊠ (C3 ⊞ z ⊠ (C4 ⊞ z ⊠ (C5 ⊞ z ⊠ C6)))))

-- x less k times 2π: the last line of fn reduce_2pi
unfoldable pub less_turns : Float → Float → Float
less_turns x k = x ⊟ k ⊠ PI2·HI ⊟ k ⊠ PI2·MID ⊟ k ⊠ PI2·LO

-- fn reduce_2pi: x less a multiple of 2π
unfoldable pub reduce2pi : Float → Float
reduce2pi x = less_turns x (round_of (x ⊠ INV·PI2))

-- `q.rem_euclid(4)`, the r from 0 to 3 for which q - r is a multiple of 4. For a negative q = -1 - m that is 3 - m % 4.
unfoldable pub rem_euclid4 : ℤ → ℕ
rem_euclid4 (pos n) = n % 4
rem_euclid4 (negsuc m) = 3 - m % 4

-- the `match` of fn sin
unfoldable pub quadrant : ℕ → Float → Float
quadrant n a =
    cond (n == 0) (sin_poly a)
    (cond (n == 1) (cos_poly a)
    (cond (n == 2) (neg (sin_poly a))
    (neg (cos_poly a))))

-- fn sin below its first line. The cast to i64 is `to_signed 63`, the one back is `of_int`.
unfoldable pub sin_reduced : Float → Float
sin_reduced r =
    let q = to_signed 63 (round_of (r ⧄ FRAC·PI·2)) in
    let a = r ⊟ of_int binary64 q ⊠ FRAC·PI·2 in
    quadrant (rem_euclid4 q) a

-- fn sin
unfoldable pub sin64 : Float → Float
sin64 x = sin_reduced (reduce2pi x)

-- fn cos
unfoldable pub cos64 : Float → Float
cos64 x = sin64 (x ⊞ FRAC·PI·2)
