-- The arms of `kit_drum_electronic` of render/kit.rs over noise above 9,000 hertz, operation by operation: a frame's sample and state at the time t, from the state s before it.
-- `a9000` is the filter's coefficient.
use Rattle.std.specs.Prelude.{Float}
use Rattle.ieee.specs.Binary32.{◌⊕◌, ◌⊖◌, ◌⊗◌}
use Rattle.ieee.specs.Numbers.{c0·12, c0·15, c0·3, c0·4, c0·5, c0·6}
use Rattle.kit_parts.specs.Numbers.{c0·02, c0·06, c0·1, c0·14, c0·18, c0·35, c1·4, c1·5, c1·6, c5800, c8000, c8700, c9000, c11000, c11500}
use Rattle.kit_parts.specs.Parts.{tone, fade, filtered, bi, drawn}
use Rattle.kit_electronic.specs.declared.drums.ElectronicState.{ElectronicState}
use Rattle.osc.specs.declared.Out.{Out}

-- let w = rng.bi(); lp2 += a9000 * (w - lp2)
abbrev pub low_after : Float → ElectronicState → Float
low_after a9000 s = filtered s.lp2 a9000 (bi s.rng)

-- w - lp2
abbrev pub high : Float → ElectronicState → Float
high a9000 s = bi s.rng ⊖ low_after a9000 s

-- the state after the frame
abbrev pub passed : Float → ElectronicState → ElectronicState
passed a9000 s = record { lp = s.lp; lp2 = low_after a9000 s; phase = s.phase; rng = drawn s.rng }

-- (w - lp2) * level * dsp::exp(-t / decay): closed hat and the unmapped
unfoldable pub electronic_hiss : Float → Float → Float → Float → ElectronicState → Out ElectronicState
electronic_hiss level decay a9000 t s = record { sample = high a9000 s ⊗ level ⊗ fade t decay; state = passed a9000 s }

abbrev pub electronic_closed_hat : Float → Float → ElectronicState → Out ElectronicState
electronic_closed_hat = electronic_hiss c1·5 c0·02

abbrev pub electronic_unmapped : Float → Float → ElectronicState → Out ElectronicState
electronic_unmapped = electronic_hiss c1·6 c0·06

-- the noise, which dies with the time constant `decay`, and a glassy product of two sines by its level and its own
unfoldable pub electronic_glassy : Float → Float → Float → Float → Float → Float → Float → ElectronicState → Out ElectronicState
electronic_glassy decay f1 f2 level ring a9000 t s = record {
  sample = high a9000 s ⊗ c1·4 ⊗ fade t decay ⊕ tone f1 t ⊗ tone f2 t ⊗ level ⊗ fade t ring;
  state = passed a9000 s;
}

abbrev pub electronic_open_hat : Float → Float → ElectronicState → Out ElectronicState
electronic_open_hat = electronic_glassy c0·18 c9000 c11500 c0·1 c0·14

abbrev pub electronic_crash : Float → Float → ElectronicState → Out ElectronicState
electronic_crash = electronic_glassy c0·6 c8000 c11000 c0·12 c0·5

unfoldable pub electronic_ride : Float → Float → ElectronicState → Out ElectronicState
electronic_ride a9000 t s = record {
  sample = tone c5800 t ⊗ c0·35 ⊗ fade t c0·35 ⊕ tone c8700 t ⊗ c0·15 ⊗ fade t c0·3 ⊕ high a9000 s ⊗ c0·4 ⊗ fade t c0·5;
  state = passed a9000 s;
}
