-- The kernels that every voice is defined by give what det.rs's own exponential, power and hyperbolic tangent give, with its answers at k = -1023 and
-- k = 1024: what `det` gives there is another f64 (Card 10) and the same f32, so that "all frames keep their bits". Assumes nothing.
use mathlib.Core.Path.{◌≡◌}
use lib.Ieee.{Float}
use Rattle.det_corners.specs.DetRs.{expf_det_rs, powff_det_rs, tanhf_det_rs}
use Rattle.det_corners.proofs.Wrappers.{expf_same, powff_same, tanhf_same}
use Rattle.dsp.specs.Kernels.{exp_of, powf_of, tanh_of}

pub exp_is : (x : Float) → exp_of x ≡ expf_det_rs x
exp_is x = expf_same x

pub powf_is : (x y : Float) → powf_of x y ≡ powff_det_rs x y
powf_is x y = powff_same x y

pub tanh_is : (x : Float) → tanh_of x ≡ tanhf_det_rs x
tanh_is x = tanhf_same x
