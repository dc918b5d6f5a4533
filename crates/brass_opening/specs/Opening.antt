-- How far brass's filter opens at a frame, the part of `brass_note` of render/seq.rs that reads nothing but the time, the gain and the rate, cut where its exponentials are.
use Rattle.std.specs.Prelude.{ℕ, Float}
use Rattle.std.specs.Float.{binary32}
use Rattle.std.specs.Float.Ieee.{of_bits, neg}
use Rattle.ieee.specs.Numbers.{c0·45, c1, c1200}
use Rattle.ieee.specs.Binary32.{◌⊕◌, ◌⊖◌, ◌⊗◌, ◌⊘◌}
use Rattle.ieee.specs.Order.{min_of}
use Rattle.dsp.specs.Kernels.{TAU}
use Rattle.frame_block.specs.Decay.{decay_at}
use Rattle.opening_block.specs.Opened.{opened_by}

-- 0.07
abbrev pub c0·07 : Float
c0·07 = of_bits binary32 0x3d8f5c29

-- 800.0
abbrev pub c800 : Float
c800 = of_bits binary32 0x44480000

-- 1400.0
abbrev pub c1400 : Float
c1400 = of_bits binary32 0x44af0000

-- the argument of the second exponential, by the first one, e
abbrev pub cutoff_by : Float → Float → Float → Float
cutoff_by gain srf e = neg TAU ⊗ min_of (c800 ⊕ (c1400 ⊕ c1200 ⊗ gain) ⊗ (c1 ⊖ e)) (c0·45 ⊗ srf) ⊘ srf

unfoldable pub opening_at : Float → Float → ℕ → Float
opening_at gain srf i = opened_by (cutoff_by gain srf (decay_at srf c0·07 i))
