-- det.rs's own exponential, and its power and hyperbolic tangent, which call it. They are what the library's are held to: `proofs/Corners` says where
-- the two exponentials differ, and that no f32 wrapper shows it.
use Rattle.std.specs.Prelude.{◌*◌, ◌^◌, ◌≡◌, ◌⊎◌, false, cond, ℤ, pos, negsuc, nat_abs, ◌+ℤ◌, Float}
use Rattle.std.specs.Int.Signed.{lt_z}
use Rattle.std.specs.Float.{inf, binary64}
use Rattle.std.specs.Float.Ieee.{of_bits, lt, to_signed}
use Rattle.ieee.specs.Binary64.{◌⊠◌}
use Rattle.ieee.specs.Numbers64.{d0}
use Rattle.ieee.specs.Narrow.{narrow_of}
use Rattle.det.specs.Exp.{EXP·MAX, EXP·MIN, less_ln2, exp_near, power_of}
use Rattle.det.specs.Pow.{powf_by}
use Rattle.det.specs.Tanh.{tanh_by}

-- fn ldexp2. From -1023 on the field of the exponent is k + 1023, also where that is 0, the field of zero and of the subnormals.
unfoldable pub ldexp2_det_rs : ℤ → Float
ldexp2_det_rs k =
    cond (lt_z (pos 1023) k) (inf false)
    (cond (lt_z k (negsuc 1022))
    (cond (lt_z k (negsuc 1073)) d0
    (of_bits binary64 (2 ^ nat_abs (k +ℤ pos 1074))))
    (of_bits binary64 (nat_abs (k +ℤ pos 1023) * 2 ^ 52)))

-- fn exp
unfoldable pub exp_det_rs : Float → Float
exp_det_rs x =
    cond (lt EXP·MAX x) (inf false)
    (cond (lt x EXP·MIN) d0
    (exp_near (less_ln2 x (power_of x)) ⊠ ldexp2_det_rs (to_signed 63 (power_of x))))

-- where it differs from `exp64`: x lies between the cutoffs, and k is -1023 or 1024
pub record Corner (x : Float) : Type 0 where
  pub high : lt EXP·MAX x ≡ false
  pub low : lt x EXP·MIN ≡ false
  pub power : (to_signed 63 (power_of x) ≡ negsuc 1022) ⊎ (to_signed 63 (power_of x) ≡ pos 1024)

-- fn powf and fn tanh
unfoldable pub powf_det_rs : Float → Float → Float
powf_det_rs = powf_by exp_det_rs

unfoldable pub tanh_det_rs : Float → Float
tanh_det_rs = tanh_by exp_det_rs

-- the f32 wrappers
abbrev pub expf_det_rs : Float → Float
expf_det_rs x = narrow_of (exp_det_rs x)

abbrev pub powff_det_rs : Float → Float → Float
powff_det_rs x y = narrow_of (powf_det_rs x y)

abbrev pub tanhf_det_rs : Float → Float
tanhf_det_rs x = narrow_of (tanh_det_rs x)
