-- `metal_808` of render/kit.rs and the arms of `kit_drum_808` that are made of hard squares, operation by operation: a frame's sample and state at the time t, from the state s before it.
-- `a6000` is the filter's coefficient.
use Rattle.std.specs.Prelude.{Float}
use Rattle.ieee.specs.Binary32.{◌⊕◌, ◌⊖◌, ◌⊗◌, ◌⊘◌}
use Rattle.ieee.specs.Sign.{signum_of}
use Rattle.ieee.specs.Numbers.{c0, c0·2, c0·3, c0·4, c0·5, c0·55, c0·6, c0·9}
use Rattle.rng.specs.declared.Rng.{Rng}
use Rattle.kit_parts.specs.Numbers.{c0·05, c0·35, c0·7, c6, c205·3, c304·4, c369·6, c522·7, c540, c800, c845, c5200}
use Rattle.kit_parts.specs.Parts.{tone, fade, filtered, bi, drawn}
use Rattle.kit_808.specs.declared.drums.Eight08State.{Eight08State}
use Rattle.osc.specs.declared.Out.{Out}

-- dsp::sin(TAU * f * t).signum()
unfoldable pub square_of : Float → Float → Float
square_of f t = signum_of (tone f t)

-- "six hard-square partials": FS from the first on, added to 0
unfoldable pub metal_of : Float → Float
metal_of t = (c0 ⊕ square_of c205·3 t ⊕ square_of c304·4 t ⊕ square_of c369·6 t ⊕ square_of c522·7 t ⊕ square_of c540 t ⊕ square_of c800 t) ⊘ c6

-- hlp += a6000 * (x - hlp), and the generator after the frame
abbrev pub passed : Float → Float → Rng → Eight08State → Eight08State
passed a6000 x rng s = record { hlp = filtered s.hlp a6000 x; clp = s.clp; chp = s.chp; phase = s.phase; rng = rng }

-- (m - hlp) * 0.55 * dsp::exp(-t / decay): hats, without a draw
unfoldable pub eight08_hat : Float → Float → Float → Eight08State → Out Eight08State
eight08_hat decay a6000 t s =
    let m = metal_of t in
    let after = passed a6000 m s.rng s in
    record { sample = (m ⊖ after.hlp) ⊗ c0·55 ⊗ fade t decay; state = after }

abbrev pub eight08_closed_hat : Float → Float → Eight08State → Out Eight08State
eight08_closed_hat = eight08_hat c0·05

abbrev pub eight08_open_hat : Float → Float → Eight08State → Out Eight08State
eight08_open_hat = eight08_hat c0·35

unfoldable pub eight08_cowbell : Float → Eight08State → Out Eight08State
eight08_cowbell t s =
    let a = square_of c540 t in
    let b = square_of c845 t in
    record { sample = c0·4 ⊗ (a ⊕ b) ⊗ fade t c0·2; state = s }

unfoldable pub eight08_crash : Float → Float → Eight08State → Out Eight08State
eight08_crash a6000 t s =
    let w = bi s.rng in
    let mix = metal_of t ⊗ c0·6 ⊕ w ⊗ c0·5 in
    let after = passed a6000 mix (drawn s.rng) s in
    record { sample = (mix ⊖ after.hlp) ⊗ c0·7 ⊗ fade t c0·9; state = after }

unfoldable pub eight08_ride : Float → Float → Eight08State → Out Eight08State
eight08_ride a6000 t s =
    let w = bi s.rng in
    let mix = metal_of t ⊗ c0·5 ⊕ w ⊗ c0·3 in
    let after = passed a6000 mix (drawn s.rng) s in
    record { sample = (mix ⊖ after.hlp) ⊗ c0·6 ⊗ fade t c0·5 ⊕ tone c5200 t ⊗ c0·2 ⊗ fade t c0·3; state = after }
