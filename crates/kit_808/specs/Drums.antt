-- The arms of `kit_drum_808` of render/kit.rs without the metal bank, operation by operation: a frame's sample and state at the time t, from the state s before it. `srf` is the rate;
-- `a6000`, `cloA` and `chiA` are the filters' coefficients.
use Rattle.std.specs.Prelude.{Float, Bool, cond}
use Rattle.std.specs.Float.Ieee.{lt}
use Rattle.ieee.specs.Binary32.{◌⊕◌, ◌⊖◌, ◌⊗◌, ◌⊘◌}
use Rattle.ieee.specs.Remainder.{rem_of}
use Rattle.ieee.specs.Numbers.{c0, c0·001, c0·003, c0·004, c0·006, c0·01, c0·03, c0·12, c0·3, c0·5, c0·55, c0·6, c1}
use Rattle.dsp.specs.Kernels.{TAU, sin_of}
use Rattle.rng.specs.declared.Rng.{Rng}
use Rattle.kit_parts.specs.Numbers.{c0·0015, c0·02, c0·025, c0·07, c0·08, c0·1, c0·22, c0·32, c0·7, c1·1, c26, c52, c68, c90, c175, c330, c1600, c1700}
use Rattle.kit_parts.specs.Parts.{tone, fade, filtered, turned, bi, drawn, drawn_if}
use Rattle.kit_808.specs.declared.drums.Eight08State.{Eight08State}
use Rattle.osc.specs.declared.Out.{Out}

-- whether a kick clicks, and whether a rim snaps, at the time t
abbrev pub clicks : Float → Bool
clicks t = lt t c0·004

abbrev pub snaps : Float → Bool
snaps t = lt t c0·003

unfoldable pub eight08_click : Float → Rng → Float
eight08_click t rng = cond (clicks t) ((bi rng ⊗ c0·5 ⊕ tone c1600 t ⊗ c0·5) ⊗ fade t c0·0015) c0

unfoldable pub eight08_kick : Float → Float → Eight08State → Out Eight08State
eight08_kick srf t s =
    let fk = c52 ⊕ c68 ⊗ fade t c0·025 in
    let phase = turned s.phase fk srf in
    let body = sin_of (TAU ⊗ phase) ⊗ fade t c0·6 in
    record {
      sample = body ⊕ eight08_click t s.rng ⊗ c0·5;
      state = record { hlp = s.hlp; clp = s.clp; chp = s.chp; phase = phase; rng = drawn_if (clicks t) s.rng };
    }

unfoldable pub eight08_snare : Float → Float → Eight08State → Out Eight08State
eight08_snare a6000 t s =
    let body = (tone c175 t ⊕ tone c330 t) ⊗ c0·32 ⊗ fade t c0·1 in
    let w = bi s.rng in
    let hlp = filtered s.hlp a6000 w in
    record {
      sample = body ⊕ (w ⊖ hlp) ⊗ c0·7 ⊗ fade t c0·07;
      state = record { hlp = hlp; clp = s.clp; chp = s.chp; phase = s.phase; rng = drawn s.rng };
    }

unfoldable pub eight08_snap : Float → Rng → Float
eight08_snap t rng = cond (snaps t) (bi rng ⊗ c0·3 ⊗ fade t c0·001) c0

unfoldable pub eight08_rim : Float → Eight08State → Out Eight08State
eight08_rim t s =
    let tick = tone c1700 t ⊗ c0·7 ⊗ fade t c0·006 in
    record {
      sample = tick ⊕ eight08_snap t s.rng;
      state = record { hlp = s.hlp; clp = s.clp; chp = s.chp; phase = s.phase; rng = drawn_if (snaps t) s.rng };
    }

-- let ph = (t % 0.010) / 0.010; if t < 0.030 { dsp::exp(-ph / 0.22) } else { 0.0 }
unfoldable pub burst_of : Float → Float
burst_of t =
    let ph = rem_of t c0·01 ⊘ c0·01 in
    cond (lt t c0·03) (fade ph c0·22) c0

unfoldable pub eight08_clap : Float → Float → Float → Eight08State → Out Eight08State
eight08_clap cloA chiA t s =
    let env = burst_of t ⊕ c0·55 ⊗ fade t c0·12 in
    let w = bi s.rng in
    let clp = filtered s.clp cloA w in
    let chp = filtered s.chp chiA clp in
    record {
      sample = (clp ⊖ chp) ⊗ env ⊗ c1·1;
      state = record { hlp = s.hlp; clp = clp; chp = chp; phase = s.phase; rng = drawn s.rng };
    }

-- `above` is (midi - 41) as f32
unfoldable pub eight08_tom : Float → Float → Float → Eight08State → Out Eight08State
eight08_tom above srf t s =
    let base = c90 ⊕ c26 ⊗ above in
    let ft = base ⊗ (c1 ⊕ c0·6 ⊗ fade t c0·02) in
    let phase = turned s.phase ft srf in
    let dec = c0·32 ⊖ c0·025 ⊗ above in
    record {
      sample = sin_of (TAU ⊗ phase) ⊗ fade t dec;
      state = record { hlp = s.hlp; clp = s.clp; chp = s.chp; phase = phase; rng = s.rng };
    }

unfoldable pub eight08_unmapped : Float → Eight08State → Out Eight08State
eight08_unmapped t s = record {
  sample = bi s.rng ⊗ fade t c0·08;
  state = record { hlp = s.hlp; clp = s.clp; chp = s.chp; phase = s.phase; rng = drawn s.rng };
}
