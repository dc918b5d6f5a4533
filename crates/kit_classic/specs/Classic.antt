-- `kit_drum_classic` of render/kit.rs: a frame by the drum, and the note. `srf` is the rate.
use Rattle.std.specs.Prelude.{ℕ, List, Float}
use Rattle.laws.specs.Run.{samples}
use Rattle.ieee.specs.Numbers.{c0}
use Rattle.osc.specs.Phase.{seconds}
use Rattle.rng.specs.declared.Rng.{Rng}
use Rattle.kit_parts.specs.Numbers.{c5500}
use Rattle.kit_parts.specs.Parts.{coefficient}
use Rattle.drum.specs.declared.Drum.{Drum}
use Rattle.drum.specs.declared.Drum.TheVariants.{Kick, Snare, Rim, Clap, ClosedHat, OpenHat, Tom, Cowbell, Crash, Ride, Unmapped}
use Rattle.kit_classic.specs.declared.drums.ClassicState.{ClassicState}
use Rattle.osc.specs.declared.Out.{Out}
use Rattle.kit_classic.specs.Drums.{classic_kick, classic_snare, classic_rim, classic_clap, classic_tom, classic_cowbell, classic_unmapped}
use Rattle.kit_classic.specs.Cymbals.{classic_closed_hat, classic_open_hat, classic_crash, classic_ride}

-- at the time t
unfoldable pub classic_drum : Drum → Float → Float → Float → ClassicState → Out ClassicState
classic_drum Kick srf hpA t s = classic_kick srf t s
classic_drum Snare srf hpA t s = classic_snare t s
classic_drum Rim srf hpA t s = classic_rim t s
classic_drum Clap srf hpA t s = classic_clap t s
classic_drum ClosedHat srf hpA t s = classic_closed_hat hpA t s
classic_drum OpenHat srf hpA t s = classic_open_hat hpA t s
classic_drum (Tom above) srf hpA t s = classic_tom above srf t s
classic_drum Cowbell srf hpA t s = classic_cowbell t s
classic_drum Crash srf hpA t s = classic_crash hpA t s
classic_drum Ride srf hpA t s = classic_ride hpA t s
classic_drum Unmapped srf hpA t s = classic_unmapped t s

-- frame i
abbrev pub classic_at : Drum → Float → Float → ℕ → ClassicState → Out ClassicState
classic_at drum srf hpA i s = classic_drum drum srf hpA (seconds srf i) s

abbrev pub classic_start : Rng → ClassicState
classic_start rng = record { lp = c0; phase = c0; rng = rng }

unfoldable pub classic_frames : Drum → Float → Rng → ℕ → List Float
classic_frames drum srf rng n = samples (classic_at drum srf (coefficient c5500 srf)) (λ r. r.sample) (λ r. r.state) (classic_start rng) n
