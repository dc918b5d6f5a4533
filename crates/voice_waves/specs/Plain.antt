-- `SeqWave::Sawtooth` and `SeqWave::Sine` of `seq_note_signal`. `fi` is the pitch at frame i, `f` the pitch by frame, `srf` the rate.
use Rattle.std.specs.Prelude.{ℕ, List, Float}
use Rattle.ieee.specs.Numbers.{c0}
use Rattle.laws.specs.Run.{samples}
use Rattle.ieee.specs.Binary32.{◌⊕◌}
use Rattle.osc.specs.Osc.{saw_of, osc_of}
use Rattle.osc.specs.Phase.{wrapped, increment}
use Rattle.osc.specs.declared.Shape.TheVariants.{Sine}
use Rattle.osc.specs.declared.Out.{Out}

unfoldable pub sawtooth_at : Float → Float → Float → Out Float
sawtooth_at fi srf phase =
    let dt = increment fi srf in
    record { sample = saw_of phase dt; state = wrapped (phase ⊕ dt) }

unfoldable pub sawtooth_frames : (ℕ → Float) → Float → ℕ → List Float
sawtooth_frames f srf n = samples (λ i. sawtooth_at (f i) srf) (λ r. r.sample) (λ r. r.state) c0 n

unfoldable pub sine_at : Float → Float → Float → Out Float
sine_at fi srf phase = record { sample = osc_of Sine phase; state = wrapped (phase ⊕ increment fi srf) }

unfoldable pub sine_frames : (ℕ → Float) → Float → ℕ → List Float
sine_frames f srf n = samples (λ i. sine_at (f i) srf) (λ r. r.sample) (λ r. r.state) c0 n
