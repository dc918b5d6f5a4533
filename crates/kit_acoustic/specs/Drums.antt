-- The arms of `kit_drum_acoustic` of render/kit.rs for kick, snare, rim, toms, cowbell and the unmapped, operation by operation: a frame's sample and state at the time t, from the
-- state s before it. `srf` is the rate, `k` the filters' coefficients.
use Rattle.std.specs.Prelude.{Float, Bool, cond}
use Rattle.std.specs.Float.Ieee.{lt}
use Rattle.ieee.specs.Binary32.{◌⊕◌, ◌⊖◌, ◌⊗◌, ◌⊘◌}
use Rattle.ieee.specs.Order.{min_of}
use Rattle.ieee.specs.Numbers.{c0, c0·004, c0·008, c0·018, c0·03, c0·12, c0·25, c0·3, c0·4, c0·5, c0·55, c0·9, c1, c80}
use Rattle.dsp.specs.Kernels.{TAU, sin_of}
use Rattle.voice_cowbell.specs.Cowbell.{cowbell_of}
use Rattle.rng.specs.declared.Rng.{Rng}
use Rattle.kit_parts.specs.Numbers.{c0·007, c0·012, c0·028, c0·035, c0·07, c0·08, c0·1, c0·13, c0·14, c0·16, c0·18, c0·26, c0·28, c0·35, c0·48, c0·85}
use Rattle.kit_parts.specs.Numbers.{c1·59, c24, c48, c140, c185, c330, c420, c540, c1700, c2600}
use Rattle.kit_parts.specs.Parts.{tone, fade, filtered, turned, bi, drawn}
use Rattle.kit_acoustic.specs.declared.drums.Coefficients.{Coefficients}
use Rattle.kit_acoustic.specs.declared.drums.AcousticState.{AcousticState}
use Rattle.osc.specs.declared.Out.{Out}
use Rattle.kit_acoustic.specs.declared.drums.Knock.{Knock}

-- "a beater knock": whether it sounds at the time t
abbrev pub knocks : Float → Bool
knocks t = lt t c0·018

-- what it adds, the filter's memory and the generator after it
unfoldable pub acoustic_knock : Coefficients → Float → Float → Rng → Knock
acoustic_knock k t past rng =
    cond (knocks t)
    (let w = bi rng in
    let lpa = filtered past k.a3000 w in
    let tick = tone c2600 t ⊗ fade t c0·004 in
    record { click = (w ⊖ lpa) ⊗ c0·5 ⊗ fade t c0·007 ⊕ c0·28 ⊗ tick; lpa = lpa; rng = drawn rng })
    (record { click = c0; lpa = past; rng = rng })

unfoldable pub acoustic_kick : Coefficients → Float → Float → AcousticState → Out AcousticState
acoustic_kick k srf t s =
    let fk = c48 ⊕ c140 ⊗ fade t c0·028 in
    let phase = turned s.phase fk srf in
    let body = sin_of (TAU ⊗ phase) ⊗ fade t c0·16 in
    let knock = acoustic_knock k t s.lpa s.rng in
    record {
      sample = c0·9 ⊗ body ⊕ knock.click;
      state = record { lpa = knock.lpa; lpb = s.lpb; hpa = s.hpa; phase = phase; phase2 = s.phase2; rng = knock.rng };
    }

unfoldable pub acoustic_snare : Coefficients → Float → AcousticState → Out AcousticState
acoustic_snare k t s =
    let w = bi s.rng in
    let m1 = tone c185 t ⊗ c0·48 ⊗ fade t c0·1 in
    let m2 = tone c330 t ⊗ c0·26 ⊗ fade t c0·07 in
    let lpa = filtered s.lpa k.a3500 w in
    let crack = (w ⊖ lpa) ⊗ c0·55 ⊗ fade t c0·035 in
    let lpb = filtered s.lpb k.a2500 w in
    let hpa = filtered s.hpa k.a400 lpb in
    let buzz = (lpb ⊖ hpa) ⊗ c0·4 ⊗ fade t c0·13 in
    record {
      sample = m1 ⊕ m2 ⊕ crack ⊕ buzz;
      state = record { lpa = lpa; lpb = lpb; hpa = hpa; phase = s.phase; phase2 = s.phase2; rng = drawn s.rng };
    }

unfoldable pub acoustic_rim : Coefficients → Float → AcousticState → Out AcousticState
acoustic_rim k t s =
    let w = bi s.rng in
    let lpa = filtered s.lpa k.a4000 w in
    let snap = (w ⊖ lpa) ⊗ c0·5 ⊗ fade t c0·012 in
    let ring = tone c1700 t ⊗ c0·35 ⊗ fade t c0·008 in
    let knock = tone c420 t ⊗ c0·3 ⊗ fade t c0·03 in
    record {
      sample = snap ⊕ ring ⊕ knock;
      state = record { lpa = lpa; lpb = s.lpb; hpa = s.hpa; phase = s.phase; phase2 = s.phase2; rng = drawn s.rng };
    }

-- `above` is (midi - 41) as f32
unfoldable pub acoustic_tom : Float → Coefficients → Float → Float → AcousticState → Out AcousticState
acoustic_tom above k srf t s =
    let base = c80 ⊕ c24 ⊗ above in
    let ft = base ⊗ (c1 ⊖ c0·12 ⊗ min_of (t ⊘ c0·25) c1) in
    let phase = turned s.phase ft srf in
    let phase2 = turned s.phase2 (c1·59 ⊗ ft) srf in
    let fund = sin_of (TAU ⊗ phase) ⊗ fade t c0·35 in
    let mode = sin_of (TAU ⊗ phase2) ⊗ c0·3 ⊗ fade t c0·14 in
    let w = bi s.rng in
    let lpa = filtered s.lpa k.a2000 w in
    let stick = (w ⊖ lpa) ⊗ c0·18 ⊗ fade t c0·008 in
    record {
      sample = c0·85 ⊗ fund ⊕ mode ⊕ stick;
      state = record { lpa = lpa; lpb = s.lpb; hpa = s.hpa; phase = phase; phase2 = phase2; rng = drawn s.rng };
    }

unfoldable pub acoustic_cowbell : Float → AcousticState → Out AcousticState
acoustic_cowbell t s = record { sample = cowbell_of c540 t; state = s }

unfoldable pub acoustic_unmapped : Coefficients → Float → AcousticState → Out AcousticState
acoustic_unmapped k t s =
    let w = bi s.rng in
    let lpa = filtered s.lpa k.a4000 w in
    record {
      sample = (c0·5 ⊗ w ⊕ c0·5 ⊗ lpa) ⊗ fade t c0·08;
      state = record { lpa = lpa; lpb = s.lpb; hpa = s.hpa; phase = s.phase; phase2 = s.phase2; rng = drawn s.rng };
    }
