-- The drums of this style that are noise and no more, and the cowbell: the level of each at the time t, the cowbell's whole sample for its level, and a frame by its level.
use Rattle.std.specs.Prelude.{ℕ, Float}
use Rattle.ieee.specs.Binary32.{◌⊗◌}
use Rattle.ieee.specs.Numbers.{c0}
use Rattle.osc.specs.Phase.{seconds}
use Rattle.voice_cowbell.specs.Cowbell.{c0·09, cowbell_of}
use Rattle.kit_parts.specs.Numbers.{c0·035, c0·08, c0·22, c0·7, c540}
use Rattle.kit_parts.specs.Parts.{fade, bi, drawn}
use Rattle.drum.specs.declared.Drum.{Drum}
use Rattle.drum.specs.declared.Drum.TheVariants.{Kick, Snare, Rim, Clap, ClosedHat, OpenHat, Tom, Cowbell, Crash, Ride, Unmapped}
use Rattle.kit_classic.specs.declared.drums.ClassicState.{ClassicState}
use Rattle.osc.specs.declared.Out.{Out}
use Rattle.kit_classic.specs.Drums.{classic_kick, classic_snare, classic_rim, classic_tom, classic_cowbell}
use Rattle.kit_classic.specs.Cymbals.{high, passed, classic_ride}

-- of any other drum 0, which nothing reads
unfoldable pub classic_block_level : Drum → Float → Float
classic_block_level Kick t = c0
classic_block_level Snare t = c0
classic_block_level Rim t = c0
classic_block_level Clap t = fade t c0·09
classic_block_level ClosedHat t = fade t c0·035
classic_block_level OpenHat t = fade t c0·22
classic_block_level (Tom above) t = c0
classic_block_level Cowbell t = cowbell_of c540 t
classic_block_level Crash t = fade t c0·7
classic_block_level Ride t = c0
classic_block_level Unmapped t = fade t c0·08

unfoldable pub classic_noise_by : Float → ClassicState → Out ClassicState
classic_noise_by level s = record { sample = bi s.rng ⊗ level; state = record { lp = s.lp; phase = s.phase; rng = drawn s.rng } }

unfoldable pub classic_hiss_by : Float → Float → ClassicState → Out ClassicState
classic_hiss_by level hpA s = record { sample = high hpA s ⊗ level; state = passed hpA s }

-- frame i, whose level is given
unfoldable pub classic_block_by : Drum → Float → Float → Float → ℕ → ClassicState → Out ClassicState
classic_block_by Kick level srf hpA i s = classic_kick srf (seconds srf i) s
classic_block_by Snare level srf hpA i s = classic_snare (seconds srf i) s
classic_block_by Rim level srf hpA i s = classic_rim (seconds srf i) s
classic_block_by Clap level srf hpA i s = classic_noise_by level s
classic_block_by ClosedHat level srf hpA i s = classic_hiss_by level hpA s
classic_block_by OpenHat level srf hpA i s = classic_hiss_by level hpA s
classic_block_by (Tom above) level srf hpA i s = classic_tom above srf (seconds srf i) s
classic_block_by Cowbell level srf hpA i s = record { sample = level; state = s }
classic_block_by Crash level srf hpA i s = classic_hiss_by level hpA s
classic_block_by Ride level srf hpA i s = classic_ride hpA (seconds srf i) s
classic_block_by Unmapped level srf hpA i s = classic_noise_by level s

-- the same without the cowbell among the drums that have a level
unfoldable pub classic_level : Drum → Float → Float
classic_level Kick t = c0
classic_level Snare t = c0
classic_level Rim t = c0
classic_level Clap t = fade t c0·09
classic_level ClosedHat t = fade t c0·035
classic_level OpenHat t = fade t c0·22
classic_level (Tom above) t = c0
classic_level Cowbell t = c0
classic_level Crash t = fade t c0·7
classic_level Ride t = c0
classic_level Unmapped t = fade t c0·08

-- a frame by that level: the cowbell by itself
unfoldable pub classic_by : Drum → Float → Float → Float → ℕ → ClassicState → Out ClassicState
classic_by Kick level srf hpA i s = classic_kick srf (seconds srf i) s
classic_by Snare level srf hpA i s = classic_snare (seconds srf i) s
classic_by Rim level srf hpA i s = classic_rim (seconds srf i) s
classic_by Clap level srf hpA i s = classic_noise_by level s
classic_by ClosedHat level srf hpA i s = classic_hiss_by level hpA s
classic_by OpenHat level srf hpA i s = classic_hiss_by level hpA s
classic_by (Tom above) level srf hpA i s = classic_tom above srf (seconds srf i) s
classic_by Cowbell level srf hpA i s = classic_cowbell (seconds srf i) s
classic_by Crash level srf hpA i s = classic_hiss_by level hpA s
classic_by Ride level srf hpA i s = classic_ride hpA (seconds srf i) s
classic_by Unmapped level srf hpA i s = classic_noise_by level s
