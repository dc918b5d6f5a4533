-- The arms of `kit_drum_electronic` of render/kit.rs for kick, snare, rim, clap, toms and cowbell, operation by operation: a frame's sample and state at the time t, from the state s
-- before it. `srf` is the rate, `a5500` a filter's coefficient.
use Rattle.std.specs.Prelude.{Float, Bool, cond}
use Rattle.std.specs.Float.Ieee.{lt, neg}
use Rattle.ieee.specs.Binary32.{◌⊕◌, ◌⊖◌, ◌⊗◌, ◌⊘◌}
use Rattle.ieee.specs.Remainder.{rem_of}
use Rattle.ieee.specs.Numbers.{c0, c0·003, c0·006, c0·01, c0·03, c0·3, c0·45, c0·5, c0·9, c1}
use Rattle.dsp.specs.Kernels.{TAU, sin_of, exp_of, tanh_of}
use Rattle.voice_cowbell.specs.Cowbell.{cowbell_of}
use Rattle.rng.specs.declared.Rng.{Rng}
use Rattle.kit_parts.specs.Numbers.{c0·012, c0·02, c0·025, c0·05, c0·055, c0·08, c0·1, c0·11, c0·13, c0·16, c0·22, c0·7, c0·85}
use Rattle.kit_parts.specs.Numbers.{c1·2, c1·3, c1·5, c26, c55, c90, c145, c185, c330, c420, c555, c1700}
use Rattle.kit_parts.specs.Parts.{tone, fade, filtered, turned, bi, drawn, drawn_if}
use Rattle.kit_electronic.specs.declared.drums.ElectronicState.{ElectronicState}
use Rattle.osc.specs.declared.Out.{Out}

-- whether a kick clicks at the time t
abbrev pub clicks : Float → Bool
clicks t = lt t c0·003

unfoldable pub electronic_click : Float → Rng → Float
electronic_click t rng = cond (clicks t) (bi rng ⊗ c0·3) c0

unfoldable pub electronic_kick : Float → Float → ElectronicState → Out ElectronicState
electronic_kick srf t s =
    let fk = c55 ⊕ c145 ⊗ fade t c0·025 in
    let phase = turned s.phase fk srf in
    let body = tanh_of (c1·3 ⊗ sin_of (TAU ⊗ phase)) ⊗ c0·85 ⊗ fade t c0·11 in
    record {
      sample = body ⊕ electronic_click t s.rng;
      state = record { lp = s.lp; lp2 = s.lp2; phase = phase; rng = drawn_if (clicks t) s.rng };
    }

-- if t < 0.13 { 1.0 } else { dsp::exp(-(t - 0.13) / 0.006) }
unfoldable pub gate_of : Float → Float
gate_of t = cond (lt t c0·13) c1 (exp_of (neg (t ⊖ c0·13) ⊘ c0·006))

unfoldable pub electronic_snare : Float → Float → ElectronicState → Out ElectronicState
electronic_snare a5500 t s =
    let body = (tone c185 t ⊗ c0·45 ⊕ tone c330 t ⊗ c0·22) ⊗ fade t c0·055 in
    let w = bi s.rng in
    let lp = filtered s.lp a5500 w in
    record {
      sample = body ⊕ (w ⊖ lp) ⊗ c0·7 ⊗ fade t c0·16 ⊗ gate_of t;
      state = record { lp = lp; lp2 = s.lp2; phase = s.phase; rng = drawn s.rng };
    }

unfoldable pub electronic_rim : Float → ElectronicState → Out ElectronicState
electronic_rim t s = record {
  sample = tone c1700 t ⊗ c0·5 ⊗ fade t c0·012 ⊕ tone c420 t ⊗ c0·3 ⊗ fade t c0·02 ⊕ bi s.rng ⊗ c0·3 ⊗ fade t c0·006;
  state = record { lp = s.lp; lp2 = s.lp2; phase = s.phase; rng = drawn s.rng };
}

-- if t < 0.03 { dsp::exp(-((t % 0.01) / 0.003)) } else { dsp::exp(-(t - 0.03) / 0.10) }
unfoldable pub claps_of : Float → Float
claps_of t = cond (lt t c0·03) (exp_of (neg (rem_of t c0·01 ⊘ c0·003))) (exp_of (neg (t ⊖ c0·03) ⊘ c0·1))

unfoldable pub electronic_clap : Float → Float → ElectronicState → Out ElectronicState
electronic_clap a5500 t s =
    let w = bi s.rng in
    let lp = filtered s.lp a5500 w in
    record {
      sample = (c0·5 ⊗ (w ⊖ lp) ⊕ c0·5 ⊗ w) ⊗ claps_of t ⊗ c0·9;
      state = record { lp = lp; lp2 = s.lp2; phase = s.phase; rng = drawn s.rng };
    }

-- `above` is (midi - 41) as f32
unfoldable pub electronic_tom : Float → Float → Float → ElectronicState → Out ElectronicState
electronic_tom above srf t s =
    let base = c90 ⊕ c26 ⊗ above in
    let ft = base ⊗ (c1 ⊕ c1·5 ⊗ fade t c0·05) in
    let phase = turned s.phase ft srf in
    record {
      sample = tanh_of (c1·2 ⊗ sin_of (TAU ⊗ phase)) ⊗ fade t c0·16 ⊕ bi s.rng ⊗ c0·08 ⊗ fade t c0·02;
      state = record { lp = s.lp; lp2 = s.lp2; phase = phase; rng = drawn s.rng };
    }

unfoldable pub electronic_cowbell : Float → ElectronicState → Out ElectronicState
electronic_cowbell t s = record { sample = cowbell_of c555 t; state = s }
