-- Where det.rs and fdlibm part (docs/DIFFERENCES.md): what the definitions give at an argument of each place. antt computes both sides. Assumes nothing.
use mathlib.Core.Path.{◌≡◌, refl}
use mathlib.Core.Bool.{false}
use Prim.Native.Nat.{ℕ}
use lib.IntN.{pos, negsuc}
use lib.Ieee.{Float, nan, inf, binary64, of_bits, to_bits, of_int, to_signed, is_nan, neg, add, sub, mul, div, lt, eq, round, size, units, odd, sum}
use Rattle.ieee.specs.Whole.{whole}
use Rattle.ieee.specs.Numbers64.{d0, d1, d2}
use Rattle.det.specs.Exp.{EXP·MAX, ldexp2_of, scaled, less_ln2, exp_near, exp_from, exp_reduced, exp64}
use Rattle.det.specs.Ln.{MIN·POSITIVE, ln_series, ln_split, ln64}
use Rattle.det.specs.Pow.{powf64}
use Rattle.det.specs.Tanh.{expm1_small, tanh_signed, tanh64}

-- an f64 by its pattern
abbrev f64 : ℕ → Float
f64 = of_bits binary64

-- 2 ^ -1022, 2 ^ -1023 and 2 ^ -1024 are right; 2 ^ -1075 is 0, and 2 ^ 1024 is an infinity
pub powers
    : (ldexp2_of (negsuc 1021) ≡ MIN·POSITIVE)
    × (ldexp2_of (negsuc 1022) ≡ f64 0x0008_0000_0000_0000)
    × (ldexp2_of (negsuc 1023) ≡ f64 0x0004_0000_0000_0000)
    × (ldexp2_of (negsuc 1074) ≡ d0)
    × (ldexp2_of (pos 1024) ≡ inf false)
unfolding ldexp2_of
powers = (refl, refl, refl, refl, refl)

-- e ^ x at -709, -709.5, -745.13, 709.5 and the upper cutoff
pub exponentials
    : (exp64 (f64 0xc086_2800_0000_0000) ≡ f64 0x0008_bfe5_5de0_2338)
    × (exp64 (f64 0xc086_2c00_0000_0000) ≡ f64 0x0005_4e90_c99f_b878)
    × (exp64 (f64 0xc087_490a_3d70_a3d7) ≡ d0)
    × (exp64 (f64 0x4086_2c00_0000_0000) ≡ f64 0x7fe8_1e9b_4b52_d0c9)
    × (exp64 EXP·MAX ≡ f64 0x7fef_ffff_ffff_db2a)
unfolding exp64 exp_from exp_reduced exp_near less_ln2 scaled ldexp2_of lt of_bits add sub mul div neg round size units odd sum whole to_signed
exponentials = (refl, refl, refl, refl, refl)

-- ln of infinity, and of a subnormal at which the factor near 2 ^ 64 moves the last digit
pub logarithms : (ln64 (inf false) ≡ f64 0x4086_2e42_fefa_39ef) × (ln64 (f64 0x0000_990c_d70b_12c5) ≡ f64 0xc086_3d77_a463_1c67)
unfolding ln64 ln_split ln_series is_nan lt eq of_bits to_bits add sub mul div neg round size units odd sum of_int
logarithms = (refl, refl)

-- tanh just below 0.25 and at it
pub tangents : (tanh64 (f64 0x3fcf_ffff_ffff_ffff) ≡ f64 0x3fcf_597e_a69a_0740) × (tanh64 (f64 0x3fd0_0000_0000_0000) ≡ f64 0x3fcf_597e_a69a_1c88)
unfolding tanh64 tanh_signed expm1_small exp64 exp_from exp_reduced exp_near less_ln2 scaled ldexp2_of is_nan lt of_bits add sub mul div neg round size units odd sum whole to_signed
tangents = (refl, refl)

-- (-8) ^ 2; 1 ^ NaN and 1 ^ ∞; NaN ^ 0; 0 ^ NaN, (-0) ^ -1 and (-0) ^ 3; ∞ ^ 0.1 and ∞ ^ -1
pub powers_of
    : (powf64 (f64 0xc020_0000_0000_0000) d2 ≡ nan)
    × (powf64 d1 nan ≡ nan)
    × (powf64 d1 (inf false) ≡ nan)
    × (powf64 nan d0 ≡ d1)
    × (powf64 d0 nan ≡ inf false)
    × (powf64 (neg d0) (neg d1) ≡ inf false)
    × (powf64 (neg d0) (f64 0x4008_0000_0000_0000) ≡ d0)
    × (powf64 (inf false) (f64 0x3fb9_9999_9999_999a) ≡ f64 0x4655_1cb4_53b9_534d)
    × (powf64 (inf false) (neg d1) ≡ f64 0x0004_0000_0000_001b)
unfolding powf64 exp64 exp_from exp_reduced exp_near less_ln2 scaled ldexp2_of ln64 ln_split ln_series is_nan lt eq of_bits to_bits add sub mul div neg round size units odd sum whole to_signed of_int
powers_of = (refl, refl, refl, refl, refl, refl, refl, refl, refl)
