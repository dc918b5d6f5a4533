-- `bass_note` of render/seq.rs, operation by operation. `fi` is the pitch at frame i, `f` the pitch by frame, `bass` the knobs, `gain` the note's own, `srf` the rate.
use Rattle.std.specs.Prelude.{ℕ, List, Float}
use Rattle.std.specs.Float.Ieee.{neg}
use Rattle.ieee.specs.Numbers.{c0, c0·001, c0·008, c1, c2}
use Rattle.laws.specs.Run.{samples}
use Rattle.ieee.specs.Binary32.{◌⊕◌, ◌⊖◌, ◌⊗◌, ◌⊘◌}
use Rattle.ieee.specs.Order.{max_of, clamp_of}
use Rattle.dsp.specs.Kernels.{TAU, sin_of, exp_of, tanh_of}
use Rattle.osc.specs.Osc.{saw_of}
use Rattle.osc.specs.Phase.{wrapped, increment, seconds}
use Rattle.dsl.specs.declared.knobs.BassKnobs.{BassKnobs}
use Rattle.voice_bass.specs.declared.BassState.{BassState}
use Rattle.osc.specs.declared.Out.{Out}

unfoldable pub cutoff_at : BassKnobs → Float → Float → Float
cutoff_at bass gain t =
    let decay = max_of bass.bass_decay c0·001 in
    bass.bass_cutoff ⊕ (bass.bass_env ⊕ bass.bass_env_vel ⊗ gain) ⊗ exp_of (neg t ⊘ decay) ⊕ bass.bass_click ⊗ exp_of (neg t ⊘ c0·008)

unfoldable pub drive_of : Float → Float → Float
drive_of knob lp =
    let drive = clamp_of knob c0 c1 in
    lp ⊕ drive ⊗ (tanh_of (lp ⊗ (c1 ⊕ c2 ⊗ drive)) ⊖ lp)

unfoldable pub bass_at : Float → BassKnobs → Float → Float → ℕ → BassState → Out BassState
bass_at fi bass gain srf i s =
    let bodyDecay = max_of bass.bass_body_decay c0·001 in
    let dt = increment fi srf in
    let t = seconds srf i in
    let a = c1 ⊖ exp_of (neg TAU ⊗ cutoff_at bass gain t ⊘ srf) in
    let lp = s.lp ⊕ a ⊗ (saw_of s.phase dt ⊖ s.lp) in
    let body = drive_of bass.bass_drive lp in
    let sine = sin_of (TAU ⊗ s.sub) in
    record {
      sample = (bass.bass_body ⊗ body ⊕ bass.bass_sub ⊗ sine) ⊗ exp_of (neg t ⊘ bodyDecay);
      state = record { phase = wrapped (s.phase ⊕ dt); sub = wrapped (s.sub ⊕ dt ⊗ bass.bass_sub_ratio); lp = lp };
    }

abbrev pub bass_start : BassState
bass_start = record { phase = c0; sub = c0; lp = c0 }

unfoldable pub bass_frames : (ℕ → Float) → BassKnobs → Float → Float → ℕ → List Float
bass_frames f bass gain srf n = samples (λ i. bass_at (f i) bass gain srf i) (λ r. r.sample) (λ r. r.state) bass_start n
