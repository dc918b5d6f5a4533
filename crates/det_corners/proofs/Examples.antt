-- det.rs's own exponential at a place of each corner, where the library's has the values of det/proofs/Differences. antt computes both sides. Assumes nothing.
use mathlib.Core.Path.{◌≡◌, refl}
use mathlib.Core.Bool.{false}
use lib.IntN.{negsuc}
use lib.Ieee.{inf, binary64, of_bits, to_signed, neg, add, sub, mul, div, lt, round, size, units, odd, sum}
use Rattle.ieee.specs.Whole.{whole}
use Rattle.ieee.specs.Numbers64.{d0}
use Rattle.det.specs.Exp.{EXP·MAX, less_ln2, exp_near}
use Rattle.det_corners.specs.DetRs.{ldexp2_det_rs, exp_det_rs}

-- 2 ^ -1023, and e ^ x at -709, 709.5 and the upper cutoff
pub corners
    : (ldexp2_det_rs (negsuc 1022) ≡ d0)
    × (exp_det_rs (of_bits binary64 0xc086_2800_0000_0000) ≡ d0)
    × (exp_det_rs (of_bits binary64 0x4086_2c00_0000_0000) ≡ inf false)
    × (exp_det_rs EXP·MAX ≡ inf false)
unfolding exp_det_rs exp_near less_ln2 ldexp2_det_rs lt of_bits add sub mul div neg round size units odd sum whole to_signed
corners = (refl, refl, refl, refl)
