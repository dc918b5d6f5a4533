-- The clap of `kit_drum_acoustic` of render/kit.rs, operation by operation: a frame's sample and state at the time t, from the state s before it. `k` has the filters' coefficients.
use Rattle.std.specs.Prelude.{Float, cond}
use Rattle.std.specs.Float.Ieee.{le, neg}
use Rattle.ieee.specs.Binary32.{◌⊕◌, ◌⊖◌, ◌⊗◌, ◌⊘◌}
use Rattle.ieee.specs.Order.{min_of}
use Rattle.ieee.specs.Numbers.{c0, c0·018, c0·9, c1}
use Rattle.dsp.specs.Kernels.{exp_of}
use Rattle.kit_parts.specs.Numbers.{c0·009, c0·027, c0·1, c0·35}
use Rattle.kit_parts.specs.Parts.{fade, filtered, bi, drawn}
use Rattle.kit_acoustic.specs.declared.drums.Coefficients.{Coefficients}
use Rattle.kit_acoustic.specs.declared.drums.AcousticState.{AcousticState}
use Rattle.osc.specs.declared.Out.{Out}

-- if t >= d { dsp::exp(-(t - d) / 0.009) } else { 0.0 }
unfoldable pub burst_of : Float → Float → Float
burst_of t d = cond (le d t) (exp_of (neg (t ⊖ d) ⊘ c0·009)) c0

unfoldable pub acoustic_clap : Coefficients → Float → AcousticState → Out AcousticState
acoustic_clap k t s =
    let w = bi s.rng in
    let lpa = filtered s.lpa k.a2500 w in
    let hpa = filtered s.hpa k.a900 lpa in
    let band = lpa ⊖ hpa in
    let bursts = min_of (burst_of t c0 ⊕ burst_of t c0·009 ⊕ burst_of t c0·018 ⊕ burst_of t c0·027) c1 in
    let tail = c0·35 ⊗ fade t c0·1 in
    record {
      sample = band ⊗ (c0·9 ⊗ bursts ⊕ tail);
      state = record { lpa = lpa; lpb = s.lpb; hpa = hpa; phase = s.phase; phase2 = s.phase2; rng = drawn s.rng };
    }
