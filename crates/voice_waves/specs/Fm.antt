-- `SeqWave::Fm` of `seq_note_signal`. `fi` is the pitch at frame i, `f` the pitch by frame, `srf` the rate, `gain` the note's own gain.
use Rattle.std.specs.Prelude.{ℕ, List, Float}
use Rattle.std.specs.Float.Ieee.{neg}
use Rattle.ieee.specs.Numbers.{c0, c0·001, c0·4, c0·6}
use Rattle.laws.specs.Run.{samples}
use Rattle.ieee.specs.Binary32.{◌⊕◌, ◌⊗◌, ◌⊘◌}
use Rattle.ieee.specs.Order.{max_of}
use Rattle.dsl.specs.declared.knobs.FmKnobs.{FmKnobs}
use Rattle.dsp.specs.Kernels.{TAU, sin_of, exp_of}
use Rattle.osc.specs.Phase.{wrapped, increment, seconds}
use Rattle.voice_waves.specs.declared.modulated.FmState.{FmState}
use Rattle.osc.specs.declared.Out.{Out}

-- idx
unfoldable pub fm_index : FmKnobs → Float → Float → ℕ → Float
fm_index knobs gain srf i =
    let t = seconds srf i in
    knobs.fm_index ⊗ (c0·4 ⊕ c0·6 ⊗ gain) ⊗ exp_of (neg t ⊘ max_of knobs.fm_strike c0·001)

unfoldable pub fm_at : Float → FmKnobs → Float → Float → ℕ → FmState → Out FmState
fm_at fi knobs gain srf i s =
    let dt = increment fi srf in
    let m = fm_index knobs gain srf i ⊗ sin_of (TAU ⊗ s.mph) in
    record { sample = sin_of (TAU ⊗ s.cph ⊕ m); state = record { cph = wrapped (s.cph ⊕ dt); mph = wrapped (s.mph ⊕ dt ⊗ knobs.fm_ratio) } }

unfoldable pub fm_frames : (ℕ → Float) → FmKnobs → Float → Float → ℕ → List Float
fm_frames f knobs gain srf n = samples (λ i. fm_at (f i) knobs gain srf i) (λ r. r.sample) (λ r. r.state) (record { cph = c0; mph = c0 }) n
