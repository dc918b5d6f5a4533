-- The drums of this style that are noise and no more, and the cowbell: the level of each at the time t, the cowbell's whole sample for its level, and a frame by its level.
use Rattle.std.specs.Prelude.{ℕ, Float, cond}
use Rattle.std.specs.Float.Ieee.{le, neg}
use Rattle.ieee.specs.Binary32.{◌⊕◌, ◌⊖◌, ◌⊗◌, ◌⊘◌}
use Rattle.ieee.specs.Order.{min_of}
use Rattle.ieee.specs.Numbers.{c0, c0·018, c0·15, c0·5, c0·55, c0·6, c0·9, c1}
use Rattle.osc.specs.Phase.{seconds}
use Rattle.voice_cowbell.specs.Cowbell.{cowbell_of}
use Rattle.kit_parts.specs.Numbers.{c0·009, c0·027, c0·032, c0·08, c0·1, c0·32, c0·35, c0·85, c540}
use Rattle.kit_parts.specs.Parts.{fade, filtered, bi, drawn}
use Rattle.drum.specs.declared.Drum.{Drum}
use Rattle.drum.specs.declared.Drum.TheVariants.{Kick, Snare, Rim, Clap, ClosedHat, OpenHat, Tom, Cowbell, Crash, Ride, Unmapped}
use Rattle.kit_acoustic.specs.declared.drums.Coefficients.{Coefficients}
use Rattle.kit_acoustic.specs.declared.drums.AcousticState.{AcousticState}
use Rattle.osc.specs.declared.Out.{Out}
use Rattle.kit_acoustic.specs.Drums.{acoustic_kick, acoustic_snare, acoustic_rim, acoustic_tom, acoustic_cowbell}
use Rattle.kit_acoustic.specs.Clap.{burst_of}
use Rattle.kit_acoustic.specs.Cymbals.{acoustic_crash, acoustic_ride}

-- ---- levels

-- the argument of a burst's exponential, and the burst by its exponential e
unfoldable pub burst_argument : Float → Float → Float
burst_argument t d = neg (t ⊖ d) ⊘ c0·009

unfoldable pub heard_of : Float → Float → Float → Float
heard_of t d e = cond (le d t) e c0

-- the clap's four bursts and its tail
unfoldable pub clap_mix : Float → Float → Float → Float → Float → Float
clap_mix b1 b2 b3 b4 tail = c0·9 ⊗ min_of (b1 ⊕ b2 ⊕ b3 ⊕ b4) c1 ⊕ c0·35 ⊗ tail

unfoldable pub acoustic_clap_level : Float → Float
acoustic_clap_level t = clap_mix (burst_of t c0) (burst_of t c0·009) (burst_of t c0·018) (burst_of t c0·027) (fade t c0·1)

unfoldable pub open_hat_mix : Float → Float → Float
open_hat_mix slow fast = c0·85 ⊗ slow ⊕ c0·15 ⊗ fast

unfoldable pub acoustic_open_hat_level : Float → Float
acoustic_open_hat_level t = open_hat_mix (fade t c0·32) (fade t c0·08)

-- of any other drum 0, which nothing reads
unfoldable pub acoustic_block_level : Drum → Float → Float
acoustic_block_level Kick t = c0
acoustic_block_level Snare t = c0
acoustic_block_level Rim t = c0
acoustic_block_level Clap t = acoustic_clap_level t
acoustic_block_level ClosedHat t = fade t c0·032
acoustic_block_level OpenHat t = acoustic_open_hat_level t
acoustic_block_level (Tom above) t = c0
acoustic_block_level Cowbell t = cowbell_of c540 t
acoustic_block_level Crash t = c0
acoustic_block_level Ride t = c0
acoustic_block_level Unmapped t = fade t c0·08

-- ---- frames by their levels

unfoldable pub acoustic_clap_by : Float → Coefficients → AcousticState → Out AcousticState
acoustic_clap_by level k s =
    let w = bi s.rng in
    let lpa = filtered s.lpa k.a2500 w in
    let hpa = filtered s.hpa k.a900 lpa in
    record {
      sample = (lpa ⊖ hpa) ⊗ level;
      state = record { lpa = lpa; lpb = s.lpb; hpa = hpa; phase = s.phase; phase2 = s.phase2; rng = drawn s.rng };
    }

-- a hat: the noise above a filter and the shimmer between two, each by its share
unfoldable pub acoustic_hat_by : Float → Float → Float → Coefficients → AcousticState → Out AcousticState
acoustic_hat_by hiss shine level k s =
    let w = bi s.rng in
    let lpa = filtered s.lpa k.a11000 w in
    let hpa = filtered s.hpa k.a8000 lpa in
    let lpb = filtered s.lpb k.a6500 w in
    record {
      sample = (hiss ⊗ (w ⊖ lpb) ⊕ shine ⊗ (lpa ⊖ hpa)) ⊗ level;
      state = record { lpa = lpa; lpb = lpb; hpa = hpa; phase = s.phase; phase2 = s.phase2; rng = drawn s.rng };
    }

abbrev pub acoustic_closed_hat_by : Float → Coefficients → AcousticState → Out AcousticState
acoustic_closed_hat_by = acoustic_hat_by c0·6 c0·55

abbrev pub acoustic_open_hat_by : Float → Coefficients → AcousticState → Out AcousticState
acoustic_open_hat_by = acoustic_hat_by c0·55 c0·6

unfoldable pub acoustic_unmapped_by : Float → Coefficients → AcousticState → Out AcousticState
acoustic_unmapped_by level k s =
    let w = bi s.rng in
    let lpa = filtered s.lpa k.a4000 w in
    record {
      sample = (c0·5 ⊗ w ⊕ c0·5 ⊗ lpa) ⊗ level;
      state = record { lpa = lpa; lpb = s.lpb; hpa = s.hpa; phase = s.phase; phase2 = s.phase2; rng = drawn s.rng };
    }

-- frame i, whose level is given
unfoldable pub acoustic_block_by : Drum → Float → Coefficients → Float → ℕ → AcousticState → Out AcousticState
acoustic_block_by Kick level k srf i s = acoustic_kick k srf (seconds srf i) s
acoustic_block_by Snare level k srf i s = acoustic_snare k (seconds srf i) s
acoustic_block_by Rim level k srf i s = acoustic_rim k (seconds srf i) s
acoustic_block_by Clap level k srf i s = acoustic_clap_by level k s
acoustic_block_by ClosedHat level k srf i s = acoustic_closed_hat_by level k s
acoustic_block_by OpenHat level k srf i s = acoustic_open_hat_by level k s
acoustic_block_by (Tom above) level k srf i s = acoustic_tom above k srf (seconds srf i) s
acoustic_block_by Cowbell level k srf i s = record { sample = level; state = s }
acoustic_block_by Crash level k srf i s = acoustic_crash k (seconds srf i) s
acoustic_block_by Ride level k srf i s = acoustic_ride k (seconds srf i) s
acoustic_block_by Unmapped level k srf i s = acoustic_unmapped_by level k s

-- the same without the cowbell among the drums that have a level
unfoldable pub acoustic_level : Drum → Float → Float
acoustic_level Kick t = c0
acoustic_level Snare t = c0
acoustic_level Rim t = c0
acoustic_level Clap t = acoustic_clap_level t
acoustic_level ClosedHat t = fade t c0·032
acoustic_level OpenHat t = acoustic_open_hat_level t
acoustic_level (Tom above) t = c0
acoustic_level Cowbell t = c0
acoustic_level Crash t = c0
acoustic_level Ride t = c0
acoustic_level Unmapped t = fade t c0·08

-- a frame by that level: the cowbell by itself
unfoldable pub acoustic_by : Drum → Float → Coefficients → Float → ℕ → AcousticState → Out AcousticState
acoustic_by Kick level k srf i s = acoustic_kick k srf (seconds srf i) s
acoustic_by Snare level k srf i s = acoustic_snare k (seconds srf i) s
acoustic_by Rim level k srf i s = acoustic_rim k (seconds srf i) s
acoustic_by Clap level k srf i s = acoustic_clap_by level k s
acoustic_by ClosedHat level k srf i s = acoustic_closed_hat_by level k s
acoustic_by OpenHat level k srf i s = acoustic_open_hat_by level k s
acoustic_by (Tom above) level k srf i s = acoustic_tom above k srf (seconds srf i) s
acoustic_by Cowbell level k srf i s = acoustic_cowbell (seconds srf i) s
acoustic_by Crash level k srf i s = acoustic_crash k (seconds srf i) s
acoustic_by Ride level k srf i s = acoustic_ride k (seconds srf i) s
acoustic_by Unmapped level k srf i s = acoustic_unmapped_by level k s
