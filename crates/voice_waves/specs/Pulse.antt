-- `SeqWave::Square` and `SeqWave::Triangle` of `seq_note_signal`. `fi` and `di` are the pitch and the duty at frame i, `f` and `d` by frame, `srf` the rate.
use Rattle.std.specs.Prelude.{ℕ, cond, List, Float}
use Rattle.std.specs.Float.{binary32}
use Rattle.std.specs.Float.Ieee.{of_bits, neg, lt}
use Rattle.ieee.specs.Numbers.{c0, c0·01, c0·5, c1, c4}
use Rattle.laws.specs.Run.{samples}
use Rattle.ieee.specs.Binary32.{◌⊕◌, ◌⊖◌, ◌⊗◌}
use Rattle.ieee.specs.Order.{clamp_of}
use Rattle.ieee.specs.Whole.{fract_of}
use Rattle.osc.specs.Osc.{poly_blep}
use Rattle.osc.specs.Phase.{wrapped, increment}
use Rattle.osc.specs.declared.Out.{Out}
use Rattle.voice_waves.specs.declared.pulse.TriangleState.{TriangleState}

-- 0.99
abbrev pub c0·99 : Float
c0·99 = of_bits binary32 0x3f7d70a4

-- 0.9995
abbrev pub c0·9995 : Float
c0·9995 = of_bits binary32 0x3f7fdf3b

-- if phase < duty { 1.0 } else { -1.0 }
unfoldable pub pulse_level : Float → Float → Float
pulse_level phase duty = cond (lt phase duty) c1 (neg c1)

-- v += poly_blep(phase, dt); v -= poly_blep(second, dt)
unfoldable pub pulse_of : Float → Float → Float → Float → Float
pulse_of phase duty second dt = pulse_level phase duty ⊕ poly_blep phase dt ⊖ poly_blep second dt

unfoldable pub square_at : Float → Float → Float → Float → Out Float
square_at fi di srf phase =
    let dt = increment fi srf in
    let duty = clamp_of di c0·01 c0·99 in
    record { sample = pulse_of phase duty (fract_of binary32 (phase ⊖ duty ⊕ c1)) dt; state = wrapped (phase ⊕ dt) }

unfoldable pub square_frames : (ℕ → Float) → (ℕ → Float) → Float → ℕ → List Float
square_frames f d srf n = samples (λ i. square_at (f i) (d i) srf) (λ r. r.sample) (λ r. r.state) c0 n

unfoldable pub triangle_at : Float → Float → TriangleState → Out TriangleState
triangle_at fi srf s =
    let dt = increment fi srf in
    let sq = pulse_of s.phase c0·5 (fract_of binary32 (s.phase ⊕ c0·5)) dt in
    let tri = s.tri ⊗ c0·9995 ⊕ c4 ⊗ dt ⊗ sq in
    record { sample = tri; state = record { phase = wrapped (s.phase ⊕ dt); tri = tri } }

unfoldable pub triangle_frames : (ℕ → Float) → Float → ℕ → List Float
triangle_frames f srf n = samples (λ i. triangle_at (f i) srf) (λ r. r.sample) (λ r. r.state) (record { phase = c0; tri = c0 }) n
