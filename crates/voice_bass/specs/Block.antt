-- A frame of the bass by what it reads: how far its filter opens, and how far its level has faded.
use Rattle.std.specs.Prelude.{Float}
use Rattle.ieee.specs.Binary32.{◌⊕◌, ◌⊖◌, ◌⊗◌}
use Rattle.dsp.specs.Kernels.{TAU, sin_of}
use Rattle.osc.specs.Osc.{saw_of}
use Rattle.osc.specs.Phase.{wrapped, increment}
use Rattle.dsl.specs.declared.knobs.BassKnobs.{BassKnobs}
use Rattle.voice_bass.specs.Bass.{drive_of}
use Rattle.voice_bass.specs.declared.BassState.{BassState}
use Rattle.osc.specs.declared.Out.{Out}

pub record BassRead : Type 0 where
  pub opening : Float
  pub fade : Float

unfoldable pub bass_by : BassRead → Float → BassKnobs → Float → BassState → Out BassState
bass_by x fi bass srf s =
    let dt = increment fi srf in
    let lp = s.lp ⊕ x.opening ⊗ (saw_of s.phase dt ⊖ s.lp) in
    let body = drive_of bass.bass_drive lp in
    let sine = sin_of (TAU ⊗ s.sub) in
    record {
      sample = (bass.bass_body ⊗ body ⊕ bass.bass_sub ⊗ sine) ⊗ x.fade;
      state = record { phase = wrapped (s.phase ⊕ dt); sub = wrapped (s.sub ⊕ dt ⊗ bass.bass_sub_ratio); lp = lp };
    }
