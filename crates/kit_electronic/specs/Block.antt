-- The drums of this style that are noise and no more, and the cowbell: the level of each at the time t, the cowbell's whole sample for its level, and a frame by its level.
use Rattle.std.specs.Prelude.{ℕ, Float, cond}
use Rattle.std.specs.Float.Ieee.{lt, neg}
use Rattle.ieee.specs.Binary32.{◌⊕◌, ◌⊖◌, ◌⊗◌, ◌⊘◌}
use Rattle.ieee.specs.Remainder.{rem_of}
use Rattle.ieee.specs.Numbers.{c0, c0·003, c0·01, c0·03, c0·5, c0·9}
use Rattle.osc.specs.Phase.{seconds}
use Rattle.voice_cowbell.specs.Cowbell.{cowbell_of}
use Rattle.kit_parts.specs.Numbers.{c0·02, c0·06, c0·1, c1·5, c1·6, c555}
use Rattle.kit_parts.specs.Parts.{fade, filtered, bi, drawn}
use Rattle.drum.specs.declared.Drum.{Drum}
use Rattle.drum.specs.declared.Drum.TheVariants.{Kick, Snare, Rim, Clap, ClosedHat, OpenHat, Tom, Cowbell, Crash, Ride, Unmapped}
use Rattle.kit_electronic.specs.declared.drums.ElectronicState.{ElectronicState}
use Rattle.osc.specs.declared.Out.{Out}
use Rattle.kit_electronic.specs.Drums.{electronic_kick, electronic_snare, electronic_rim, claps_of, electronic_tom, electronic_cowbell}
use Rattle.kit_electronic.specs.Cymbals.{high, passed, electronic_open_hat, electronic_crash, electronic_ride}

-- of any other drum 0, which nothing reads
unfoldable pub electronic_block_level : Drum → Float → Float
electronic_block_level Kick t = c0
electronic_block_level Snare t = c0
electronic_block_level Rim t = c0
electronic_block_level Clap t = claps_of t
electronic_block_level ClosedHat t = fade t c0·02
electronic_block_level OpenHat t = c0
electronic_block_level (Tom above) t = c0
electronic_block_level Cowbell t = cowbell_of c555 t
electronic_block_level Crash t = c0
electronic_block_level Ride t = c0
electronic_block_level Unmapped t = fade t c0·06

-- the argument of the exponential that `claps_of t` is
unfoldable pub clap_argument : Float → Float
clap_argument t = cond (lt t c0·03) (neg (rem_of t c0·01 ⊘ c0·003)) (neg (t ⊖ c0·03) ⊘ c0·1)

-- the clap
unfoldable pub electronic_clap_by : Float → Float → ElectronicState → Out ElectronicState
electronic_clap_by level a5500 s =
    let w = bi s.rng in
    let lp = filtered s.lp a5500 w in
    record {
      sample = (c0·5 ⊗ (w ⊖ lp) ⊕ c0·5 ⊗ w) ⊗ level ⊗ c0·9;
      state = record { lp = lp; lp2 = s.lp2; phase = s.phase; rng = drawn s.rng };
    }

unfoldable pub electronic_hiss_by : Float → Float → Float → ElectronicState → Out ElectronicState
electronic_hiss_by gain level a9000 s = record { sample = high a9000 s ⊗ gain ⊗ level; state = passed a9000 s }

-- frame i, whose level is given
unfoldable pub electronic_block_by : Drum → Float → Float → Float → Float → ℕ → ElectronicState → Out ElectronicState
electronic_block_by Kick level srf a5500 a9000 i s = electronic_kick srf (seconds srf i) s
electronic_block_by Snare level srf a5500 a9000 i s = electronic_snare a5500 (seconds srf i) s
electronic_block_by Rim level srf a5500 a9000 i s = electronic_rim (seconds srf i) s
electronic_block_by Clap level srf a5500 a9000 i s = electronic_clap_by level a5500 s
electronic_block_by ClosedHat level srf a5500 a9000 i s = electronic_hiss_by c1·5 level a9000 s
electronic_block_by OpenHat level srf a5500 a9000 i s = electronic_open_hat a9000 (seconds srf i) s
electronic_block_by (Tom above) level srf a5500 a9000 i s = electronic_tom above srf (seconds srf i) s
electronic_block_by Cowbell level srf a5500 a9000 i s = record { sample = level; state = s }
electronic_block_by Crash level srf a5500 a9000 i s = electronic_crash a9000 (seconds srf i) s
electronic_block_by Ride level srf a5500 a9000 i s = electronic_ride a9000 (seconds srf i) s
electronic_block_by Unmapped level srf a5500 a9000 i s = electronic_hiss_by c1·6 level a9000 s

-- the same without the cowbell among the drums that have a level
unfoldable pub electronic_level : Drum → Float → Float
electronic_level Kick t = c0
electronic_level Snare t = c0
electronic_level Rim t = c0
electronic_level Clap t = claps_of t
electronic_level ClosedHat t = fade t c0·02
electronic_level OpenHat t = c0
electronic_level (Tom above) t = c0
electronic_level Cowbell t = c0
electronic_level Crash t = c0
electronic_level Ride t = c0
electronic_level Unmapped t = fade t c0·06

-- a frame by that level: the cowbell by itself
unfoldable pub electronic_by : Drum → Float → Float → Float → Float → ℕ → ElectronicState → Out ElectronicState
electronic_by Kick level srf a5500 a9000 i s = electronic_kick srf (seconds srf i) s
electronic_by Snare level srf a5500 a9000 i s = electronic_snare a5500 (seconds srf i) s
electronic_by Rim level srf a5500 a9000 i s = electronic_rim (seconds srf i) s
electronic_by Clap level srf a5500 a9000 i s = electronic_clap_by level a5500 s
electronic_by ClosedHat level srf a5500 a9000 i s = electronic_hiss_by c1·5 level a9000 s
electronic_by OpenHat level srf a5500 a9000 i s = electronic_open_hat a9000 (seconds srf i) s
electronic_by (Tom above) level srf a5500 a9000 i s = electronic_tom above srf (seconds srf i) s
electronic_by Cowbell level srf a5500 a9000 i s = electronic_cowbell (seconds srf i) s
electronic_by Crash level srf a5500 a9000 i s = electronic_crash a9000 (seconds srf i) s
electronic_by Ride level srf a5500 a9000 i s = electronic_ride a9000 (seconds srf i) s
electronic_by Unmapped level srf a5500 a9000 i s = electronic_hiss_by c1·6 level a9000 s
