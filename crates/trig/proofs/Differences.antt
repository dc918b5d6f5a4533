-- Where det.rs and fdlibm part (docs/DIFFERENCES.md): what the definitions give at arguments of the sine. antt computes both sides. Assumes nothing.
use Rattle.std.proofs.Common.{◌≡◌, ℕ, true, refl}
use lib.Ieee.{Float, inf, binary64, of_bits, of_int, to_signed, neg, add, sub, mul, div, lt, round, size, units, odd, sum}
use Rattle.ieee.specs.Whole.{whole}
use Rattle.ieee.specs.Numbers64.{d0}
use Rattle.trig.specs.Trig.{sin_poly, cos_poly, less_turns, reduce2pi, rem_euclid4, quadrant, sin_reduced, sin64}

-- an f64 by its pattern
abbrev f64 : ℕ → Float
f64 = of_bits binary64

-- sine of -0, of the f64 nearest to π, of 10 ^ 15 and of 10 ^ 300
pub sines
    : (sin64 (neg d0) ≡ d0)
    × (sin64 (f64 0x4009_21fb_5444_2d18) ≡ f64 0x3cc0_0000_0000_0000)
    × (sin64 (f64 0x430c_6bf5_2634_0000) ≡ f64 0x3feb_d88a_d103_d8c7)
    × (sin64 (f64 0x7e37_e43c_8800_759c) ≡ inf true)
unfolding sin_reduced sin64 less_turns reduce2pi quadrant rem_euclid4 sin_poly cos_poly lt of_bits add sub mul div neg round size units odd sum whole to_signed of_int
sines = (refl, refl, refl, refl)
