-- The arms of `kit_drum_classic` of render/kit.rs that have no filter, operation by operation: a frame's sample and state at the time t, from the state s before it. `srf` is the rate.
use Rattle.std.specs.Prelude.{Float, Bool, cond}
use Rattle.std.specs.Float.Ieee.{lt}
use Rattle.ieee.specs.Binary32.{◌⊕◌, ◌⊖◌, ◌⊗◌, ◌⊘◌}
use Rattle.ieee.specs.Order.{min_of}
use Rattle.ieee.specs.Numbers.{c0, c0·002, c0·03, c0·15, c0·2, c0·3, c0·4, c0·8, c1, c80}
use Rattle.dsp.specs.Kernels.{TAU, sin_of}
use Rattle.voice_cowbell.specs.Cowbell.{c0·09, cowbell_of}
use Rattle.rng.specs.declared.Rng.{Rng}
use Rattle.kit_parts.specs.Numbers.{c0·025, c0·04, c0·06, c0·08, c0·1, c0·11, c0·13, c0·18, c24, c45, c105, c190, c540, c800}
use Rattle.kit_parts.specs.Parts.{tone, fade, turned, bi, drawn, drawn_if}
use Rattle.kit_classic.specs.declared.drums.ClassicState.{ClassicState}
use Rattle.osc.specs.declared.Out.{Out}

-- "a fast downward pitch thump plus a 2 ms beater click": whether it clicks at the time t
abbrev pub clicks : Float → Bool
clicks t = lt t c0·002

unfoldable pub classic_click : Float → Rng → Float
classic_click t rng = cond (clicks t) (bi rng ⊗ c0·4) c0

unfoldable pub classic_kick : Float → Float → ClassicState → Out ClassicState
classic_kick srf t s =
    let fk = c45 ⊕ c105 ⊗ fade t c0·04 in
    let phase = turned s.phase fk srf in
    record {
      sample = sin_of (TAU ⊗ phase) ⊗ fade t c0·13 ⊕ classic_click t s.rng;
      state = record { lp = s.lp; phase = phase; rng = drawn_if (clicks t) s.rng };
    }

unfoldable pub classic_snare : Float → ClassicState → Out ClassicState
classic_snare t s =
    let hit = tone c190 t ⊗ c0·4 ⊗ fade t c0·06 in
    record {
      sample = hit ⊕ bi s.rng ⊗ c0·8 ⊗ fade t c0·11;
      state = record { lp = s.lp; phase = s.phase; rng = drawn s.rng };
    }

unfoldable pub classic_rim : Float → ClassicState → Out ClassicState
classic_rim t s = record {
  sample = tone c800 t ⊗ c0·3 ⊗ fade t c0·03 ⊕ bi s.rng ⊗ fade t c0·025;
  state = record { lp = s.lp; phase = s.phase; rng = drawn s.rng };
}

unfoldable pub classic_clap : Float → ClassicState → Out ClassicState
classic_clap t s = record { sample = bi s.rng ⊗ fade t c0·09; state = record { lp = s.lp; phase = s.phase; rng = drawn s.rng } }

-- `above` is (midi - 41) as f32
unfoldable pub classic_tom : Float → Float → Float → ClassicState → Out ClassicState
classic_tom above srf t s =
    let base = c80 ⊕ c24 ⊗ above in
    let ft = base ⊗ (c1 ⊖ c0·15 ⊗ min_of (t ⊘ c0·2) c1) in
    let phase = turned s.phase ft srf in
    record {
      sample = sin_of (TAU ⊗ phase) ⊗ fade t c0·18 ⊕ bi s.rng ⊗ c0·1 ⊗ fade t c0·03;
      state = record { lp = s.lp; phase = phase; rng = drawn s.rng };
    }

unfoldable pub classic_cowbell : Float → ClassicState → Out ClassicState
classic_cowbell t s = record { sample = cowbell_of c540 t; state = s }

-- "Anything unmapped: a generic percussive hit"
unfoldable pub classic_unmapped : Float → ClassicState → Out ClassicState
classic_unmapped t s = record { sample = bi s.rng ⊗ fade t c0·08; state = record { lp = s.lp; phase = s.phase; rng = drawn s.rng } }
