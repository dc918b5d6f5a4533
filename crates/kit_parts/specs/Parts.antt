-- What the arms of render/kit.rs write again and again: a sine, a decay, a step of a one-pole filter, of a phase and of the generator. `t` is the time of the frame, `srf` the rate.
use Rattle.std.specs.Prelude.{Bool, cond, Float}
use Rattle.std.specs.Float.Ieee.{lt, neg}
use Rattle.ieee.specs.Binary32.{◌⊕◌, ◌⊖◌, ◌⊗◌, ◌⊘◌}
use Rattle.ieee.specs.Numbers.{c0, c1}
use Rattle.dsp.specs.Kernels.{TAU, sin_of, exp_of}
use Rattle.rng.specs.SplitMix64.{advance}
use Rattle.rng.specs.Draw.{bi_from}
use Rattle.osc.specs.Phase.{wrapped}
use Rattle.rng.specs.declared.Rng.{Rng}

-- dsp::sin(TAU * f * t)
abbrev pub tone : Float → Float → Float
tone f t = sin_of (TAU ⊗ f ⊗ t)

-- dsp::exp(-t / decay)
abbrev pub fade : Float → Float → Float
fade t decay = exp_of (neg t ⊘ decay)

-- 1.0 - dsp::exp(-TAU * fc / srf)
unfoldable pub coefficient : Float → Float → Float
coefficient fc srf = c1 ⊖ exp_of (neg TAU ⊗ fc ⊘ srf)

-- lp += a * (x - lp)
abbrev pub filtered : Float → Float → Float → Float
filtered lp a x = lp ⊕ a ⊗ (x ⊖ lp)

-- phase += f / srf; phase -= phase.floor()
abbrev pub turned : Float → Float → Float → Float
turned phase f srf = wrapped (phase ⊕ f ⊘ srf)

-- rng.bi(): the value of the draw
abbrev pub bi : Rng → Float
bi rng = bi_from rng.0

-- the generator after it
abbrev pub drawn : Rng → Rng
drawn rng = record { 0 = advance rng.0 }

-- the generator after a draw that is made if a test holds
abbrev pub drawn_if : Bool → Rng → Rng
drawn_if b rng = record { 0 = cond b (advance rng.0) rng.0 }

-- the generator at the time t of a drum that draws for the first `length` seconds
abbrev pub drawn_before : Float → Float → Rng → Rng
drawn_before length t rng = drawn_if (lt t length) rng

-- if t < length { rng.bi() * level } else { 0.0 }
abbrev pub clicked : Float → Float → Float → Rng → Float
clicked length level t rng = cond (lt t length) (bi rng ⊗ level) c0
