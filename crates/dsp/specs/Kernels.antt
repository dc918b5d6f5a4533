-- dsp.rs's f32 kernels, each its f64 kernel of det.rs narrowed once, `one_pole`, `log2` and `hz_to_midi`.
use Rattle.std.specs.Prelude.{Float}
use Rattle.std.specs.Float.{binary32}
use Rattle.std.specs.Float.Ieee.{of_bits, neg}
use Rattle.ieee.specs.Binary32.{◌⊕◌, ◌⊗◌, ◌⊘◌}
use Rattle.ieee.specs.Numbers.{c2}
use Rattle.trig.specs.Single.{sinf_of, cosf_of}
use Rattle.det.specs.Single.{expf_of, lnf_of, powff_of, tanhf_of}

-- TAU, 6.28318530717958647692528676655900577
abbrev pub TAU : Float
TAU = of_bits binary32 0x40c90fdb

abbrev pub sin_of : Float → Float
sin_of x = sinf_of x

abbrev pub cos_of : Float → Float
cos_of x = cosf_of x

abbrev pub exp_of : Float → Float
exp_of x = expf_of x

abbrev pub powf_of : Float → Float → Float
powf_of x y = powff_of x y

abbrev pub tanh_of : Float → Float
tanh_of x = tanhf_of x

-- exp(-1.0 / (secs * sr))
abbrev pub one_pole : Float → Float → Float
one_pole secs sr = exp_of (neg (of_bits binary32 0x3f800000) ⊘ (secs ⊗ sr))

-- lnf(x) / lnf(2.0): each logarithm is narrowed, and the quotient is rounded to an f32
abbrev pub log2_of : Float → Float
log2_of x = lnf_of x ⊘ lnf_of c2

-- 440.0, 69.0 and 12.0: the pitch and the MIDI number of A4, and the semitones of an octave
abbrev pub c440 : Float
c440 = of_bits binary32 0x43dc0000

abbrev pub c69 : Float
c69 = of_bits binary32 0x428a0000

abbrev pub c12 : Float
c12 = of_bits binary32 0x41400000

-- 69.0 + 12.0 * log2(hz / 440.0)
abbrev pub hz_to_midi : Float → Float
hz_to_midi hz = c69 ⊕ c12 ⊗ log2_of (hz ⊘ c440)
