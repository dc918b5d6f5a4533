-- The waves by blocks. A frame of each plain wave by what it reads: `dt`, how far its phase moves, and of the square its clamped duty.
use Rattle.std.specs.Prelude.{ℕ, ◌+◌, List, [], ◌∷◌, Float, get_or}
use Rattle.std.specs.Float.{binary32, nan}
use Rattle.laws.specs.Run.{iterate}
use Rattle.ieee.specs.Numbers.{c0·5, c1, c4, c0·001, c0·4, c0·6}
use Rattle.ieee.specs.Binary32.{◌⊕◌, ◌⊖◌, ◌⊗◌}
use Rattle.ieee.specs.Whole.{fract_of}
use Rattle.ieee.specs.Order.{max_of}
use Rattle.dsl.specs.declared.knobs.FmKnobs.{FmKnobs}
use Rattle.dsp.specs.Kernels.{TAU}
use Rattle.osc.specs.Osc.{saw_of, osc_of}
use Rattle.osc.specs.Phase.{wrapped, increment}
use Rattle.osc.specs.declared.Shape.TheVariants.{Sine}
use Rattle.voice_waves.specs.Pulse.{c0·9995, pulse_of}
use Rattle.osc.specs.declared.Out.{Out}
use Rattle.voice_waves.specs.declared.pulse.TriangleState.{TriangleState}
use Rattle.voice_waves.specs.declared.modulated.FmState.{FmState}

unfoldable pub sawtooth_by : Float → Float → Out Float
sawtooth_by dt phase = record { sample = saw_of phase dt; state = wrapped (phase ⊕ dt) }

unfoldable pub sine_by : Float → Float → Out Float
sine_by dt phase = record { sample = osc_of Sine phase; state = wrapped (phase ⊕ dt) }

pub record PulseRead : Type 0 where
  pub step : Float
  pub width : Float

unfoldable pub square_by : PulseRead → Float → Out Float
square_by x phase = record { sample = pulse_of phase x.width (fract_of binary32 (phase ⊖ x.width ⊕ c1)) x.step; state = wrapped (phase ⊕ x.step) }

unfoldable pub triangle_by : Float → TriangleState → Out TriangleState
triangle_by dt s =
    let sq = pulse_of s.phase c0·5 (fract_of binary32 (s.phase ⊕ c0·5)) dt in
    let tri = s.tri ⊗ c0·9995 ⊕ c4 ⊗ dt ⊗ sq in
    record { sample = tri; state = record { phase = wrapped (s.phase ⊕ dt); tri = tri } }

-- ---- `SeqWave::Fm`: the state after a frame, the state before frame k of a block, the argument of its inner sine, the carrier's part of the outer one's, and that argument by the block's
-- inner sines and their levels
unfoldable pub fm_next : FmKnobs → FmState → Float → FmState
fm_next knobs s dt = record { cph = wrapped (s.cph ⊕ dt); mph = wrapped (s.mph ⊕ dt ⊗ knobs.fm_ratio) }

-- `f` is the pitch by frame, `from` the block's first frame, `start` the state before it
abbrev pub fm_reached : (ℕ → Float) → FmKnobs → Float → ℕ → FmState → ℕ → FmState
fm_reached f knobs srf from start k = iterate (λ k s. fm_next knobs s (increment (f (from + k)) srf)) start k

-- the two arguments, each as a row of one
unfoldable pub modulator_turn : FmState → List Float
modulator_turn s = (TAU ⊗ s.mph) ∷ []

unfoldable pub carrier_turn : FmState → List Float
carrier_turn s = (TAU ⊗ s.cph) ∷ []

-- the numbers of those rows
abbrev pub modulator_turn_of : FmState → Float
modulator_turn_of s = TAU ⊗ s.mph

abbrev pub carrier_turn_of : FmState → Float
carrier_turn_of s = TAU ⊗ s.cph

-- the time constant of the level
abbrev pub strike_of : FmKnobs → Float
strike_of knobs = max_of knobs.fm_strike c0·001

-- by the carrier's turn c, the level e and the inner sine s
unfoldable pub fm_bent : FmKnobs → Float → Float → Float → Float → Float
fm_bent knobs gain c e s = c ⊕ knobs.fm_index ⊗ (c0·4 ⊕ c0·6 ⊗ gain) ⊗ e ⊗ s

-- of frame k: the carrier's turns are in c, the levels in e, the inner sines in s
unfoldable pub fm_bent_at : FmKnobs → Float → List Float → List Float → List Float → ℕ → Float
fm_bent_at knobs gain c e s k = fm_bent knobs gain (get_or c k nan) (get_or e k nan) (get_or s k nan)
