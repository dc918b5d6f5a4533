-- The f32 wrappers of sine and cosine. The value of an f32 is its f64's, so `x as f64` is x; the kernel's answer is narrowed once.
use Rattle.std.specs.Prelude.{Float}
use Rattle.ieee.specs.Narrow.{narrow_of}
use Rattle.trig.specs.Trig.{sin64, cos64}

abbrev pub sinf_of : Float → Float
sinf_of x = narrow_of (sin64 x)

abbrev pub cosf_of : Float → Float
cosf_of x = narrow_of (cos64 x)
