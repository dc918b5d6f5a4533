-- The cymbals of `kit_drum_acoustic` of render/kit.rs, operation by operation: a frame's sample and state at the time t, from the state s before it. `k` has the filters' coefficients.
use Rattle.std.specs.Prelude.{Float}
use Rattle.ieee.specs.Binary32.{◌⊕◌, ◌⊖◌, ◌⊗◌}
use Rattle.ieee.specs.Numbers.{c0·15, c0·2, c0·3, c0·4, c0·45, c0·5, c0·55, c0·6, c0·9}
use Rattle.kit_parts.specs.Numbers.{c0·032, c0·06, c0·08, c0·22, c0·32, c0·7, c0·85, c6, c2100, c3170, c3300, c4200, c5240, c8130}
use Rattle.kit_parts.specs.Parts.{tone, fade, filtered, bi, drawn}
use Rattle.kit_acoustic.specs.declared.drums.Coefficients.{Coefficients}
use Rattle.kit_acoustic.specs.declared.drums.AcousticState.{AcousticState}
use Rattle.osc.specs.declared.Out.{Out}

unfoldable pub acoustic_closed_hat : Coefficients → Float → AcousticState → Out AcousticState
acoustic_closed_hat k t s =
    let w = bi s.rng in
    let lpa = filtered s.lpa k.a11000 w in
    let hpa = filtered s.hpa k.a8000 lpa in
    let shimmer = lpa ⊖ hpa in
    let lpb = filtered s.lpb k.a6500 w in
    record {
      sample = (c0·6 ⊗ (w ⊖ lpb) ⊕ c0·55 ⊗ shimmer) ⊗ fade t c0·032;
      state = record { lpa = lpa; lpb = lpb; hpa = hpa; phase = s.phase; phase2 = s.phase2; rng = drawn s.rng };
    }

unfoldable pub acoustic_open_hat : Coefficients → Float → AcousticState → Out AcousticState
acoustic_open_hat k t s =
    let w = bi s.rng in
    let lpa = filtered s.lpa k.a11000 w in
    let hpa = filtered s.hpa k.a8000 lpa in
    let shimmer = lpa ⊖ hpa in
    let lpb = filtered s.lpb k.a6500 w in
    let env = c0·85 ⊗ fade t c0·32 ⊕ c0·15 ⊗ fade t c0·08 in
    record {
      sample = (c0·55 ⊗ (w ⊖ lpb) ⊕ c0·6 ⊗ shimmer) ⊗ env;
      state = record { lpa = lpa; lpb = lpb; hpa = hpa; phase = s.phase; phase2 = s.phase2; rng = drawn s.rng };
    }

unfoldable pub acoustic_crash : Coefficients → Float → AcousticState → Out AcousticState
acoustic_crash k t s =
    let w = bi s.rng in
    let lpa = filtered s.lpa k.a2500 w in
    let wash = (w ⊖ lpa) ⊗ c0·6 ⊗ fade t c0·9 in
    let lpb = filtered s.lpb k.a12000 w in
    let hpa = filtered s.hpa k.a7000 lpb in
    let lfo = c0·6 ⊕ c0·4 ⊗ tone c6 t in
    let shine = (lpb ⊖ hpa) ⊗ lfo ⊗ c0·5 ⊗ fade t c0·7 in
    let clash = (tone c3300 t ⊕ tone c5240 t ⊕ tone c8130 t) ⊗ c0·06 ⊗ fade t c0·22 in
    record {
      sample = wash ⊕ shine ⊕ clash;
      state = record { lpa = lpa; lpb = lpb; hpa = hpa; phase = s.phase; phase2 = s.phase2; rng = drawn s.rng };
    }

unfoldable pub acoustic_ride : Coefficients → Float → AcousticState → Out AcousticState
acoustic_ride k t s =
    let w = bi s.rng in
    let lpa = filtered s.lpa k.a3000 w in
    let wash = (w ⊖ lpa) ⊗ c0·45 ⊗ fade t c0·55 in
    let lpb = filtered s.lpb k.a12000 w in
    let hpa = filtered s.hpa k.a8000 lpb in
    let shine = (lpb ⊖ hpa) ⊗ c0·4 ⊗ fade t c0·4 in
    let ping = (tone c2100 t ⊗ c0·5 ⊕ tone c3170 t ⊗ c0·3 ⊕ tone c4200 t ⊗ c0·2) ⊗ fade t c0·3 in
    record {
      sample = c0·5 ⊗ ping ⊕ wash ⊕ shine;
      state = record { lpa = lpa; lpb = lpb; hpa = hpa; phase = s.phase; phase2 = s.phase2; rng = drawn s.rng };
    }
