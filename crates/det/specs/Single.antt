-- The f32 wrappers of exp, ln, powf and tanh. The value of an f32 is its f64's, so `x as f64` is x; the kernel's answer is narrowed once.
use Rattle.std.specs.Prelude.{Float}
use Rattle.ieee.specs.Narrow.{narrow_of}
use Rattle.det.specs.Exp.{exp64}
use Rattle.det.specs.Ln.{ln64}
use Rattle.det.specs.Pow.{powf64}
use Rattle.det.specs.Tanh.{tanh64}

abbrev pub expf_of : Float → Float
expf_of x = narrow_of (exp64 x)

abbrev pub lnf_of : Float → Float
lnf_of x = narrow_of (ln64 x)

abbrev pub powff_of : Float → Float → Float
powff_of x y = narrow_of (powf64 x y)

abbrev pub tanhf_of : Float → Float
tanhf_of x = narrow_of (tanh64 x)
