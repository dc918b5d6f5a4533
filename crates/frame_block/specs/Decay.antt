-- A level that falls from a note's start, at frame i: exp(-t / decay).
use Rattle.std.specs.Prelude.{ℕ, Float}
use Rattle.std.specs.Float.Ieee.{neg}
use Rattle.ieee.specs.Binary32.{◌⊘◌}
use Rattle.dsp.specs.Kernels.{exp_of}
use Rattle.osc.specs.Phase.{seconds}

-- its argument
abbrev pub decay_by : Float → Float → ℕ → Float
decay_by srf decay i = neg (seconds srf i) ⊘ decay

abbrev pub decay_at : Float → Float → ℕ → Float
decay_at srf decay i = exp_of (decay_by srf decay i)
