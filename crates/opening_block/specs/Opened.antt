-- How far a one-pole lowpass goes toward its input in a frame, `1.0 - dsp::exp(x)` of render/seq.rs, by the exponential's argument x.
use Rattle.std.specs.Prelude.{Float}
use Rattle.ieee.specs.Numbers.{c1}
use Rattle.ieee.specs.Binary32.{◌⊖◌}
use Rattle.dsp.specs.Kernels.{exp_of}

-- by the exponential e
abbrev pub rest_of : Float → Float
rest_of e = c1 ⊖ e

abbrev pub opened_by : Float → Float
opened_by x = rest_of (exp_of x)
