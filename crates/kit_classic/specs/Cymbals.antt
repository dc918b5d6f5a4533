-- The arms of `kit_drum_classic` of render/kit.rs over highpassed noise, operation by operation: a frame's sample and state at the time t, from the state s before it.
-- `hpA` is the filter's coefficient.
use Rattle.std.specs.Prelude.{Float}
use Rattle.ieee.specs.Binary32.{◌⊕◌, ◌⊖◌, ◌⊗◌}
use Rattle.ieee.specs.Numbers.{c0·25, c0·45, c0·5}
use Rattle.kit_parts.specs.Numbers.{c0·035, c0·22, c0·7, c5200}
use Rattle.kit_parts.specs.Parts.{tone, fade, filtered, bi, drawn}
use Rattle.kit_classic.specs.declared.drums.ClassicState.{ClassicState}
use Rattle.osc.specs.declared.Out.{Out}

-- hp(rng.bi(), &mut lp): the draw less the filter's memory after it, and the state after it
abbrev pub low_after : Float → ClassicState → Float
low_after hpA s = filtered s.lp hpA (bi s.rng)

abbrev pub high : Float → ClassicState → Float
high hpA s = bi s.rng ⊖ low_after hpA s

abbrev pub passed : Float → ClassicState → ClassicState
passed hpA s = record { lp = low_after hpA s; phase = s.phase; rng = drawn s.rng }

-- "Hats: highpassed noise, closed dies fast, open rings"; a crash rings longer
unfoldable pub classic_hiss : Float → Float → Float → ClassicState → Out ClassicState
classic_hiss decay hpA t s = record { sample = high hpA s ⊗ fade t decay; state = passed hpA s }

abbrev pub classic_closed_hat : Float → Float → ClassicState → Out ClassicState
classic_closed_hat = classic_hiss c0·035

abbrev pub classic_open_hat : Float → Float → ClassicState → Out ClassicState
classic_open_hat = classic_hiss c0·22

abbrev pub classic_crash : Float → Float → ClassicState → Out ClassicState
classic_crash = classic_hiss c0·7

unfoldable pub classic_ride : Float → Float → ClassicState → Out ClassicState
classic_ride hpA t s = record { sample = high hpA s ⊗ c0·5 ⊗ fade t c0·45 ⊕ tone c5200 t ⊗ c0·25 ⊗ fade t c0·25; state = passed hpA s }
