-- `kit_drum_electronic` of render/kit.rs: a frame by the drum, and the note. `srf` is the rate, `a5500` and `a9000` are the filters' coefficients.
use Rattle.std.specs.Prelude.{ℕ, List, Float}
use Rattle.laws.specs.Run.{samples}
use Rattle.ieee.specs.Numbers.{c0}
use Rattle.osc.specs.Phase.{seconds}
use Rattle.rng.specs.declared.Rng.{Rng}
use Rattle.kit_parts.specs.Numbers.{c5500, c9000}
use Rattle.kit_parts.specs.Parts.{coefficient}
use Rattle.drum.specs.declared.Drum.{Drum}
use Rattle.drum.specs.declared.Drum.TheVariants.{Kick, Snare, Rim, Clap, ClosedHat, OpenHat, Tom, Cowbell, Crash, Ride, Unmapped}
use Rattle.kit_electronic.specs.declared.drums.ElectronicState.{ElectronicState}
use Rattle.osc.specs.declared.Out.{Out}
use Rattle.kit_electronic.specs.Drums.{electronic_kick, electronic_snare, electronic_rim, electronic_clap, electronic_tom, electronic_cowbell}
use Rattle.kit_electronic.specs.Cymbals.{electronic_closed_hat, electronic_open_hat, electronic_crash, electronic_ride, electronic_unmapped}

-- at the time t
unfoldable pub electronic_drum : Drum → Float → Float → Float → Float → ElectronicState → Out ElectronicState
electronic_drum Kick srf a5500 a9000 t s = electronic_kick srf t s
electronic_drum Snare srf a5500 a9000 t s = electronic_snare a5500 t s
electronic_drum Rim srf a5500 a9000 t s = electronic_rim t s
electronic_drum Clap srf a5500 a9000 t s = electronic_clap a5500 t s
electronic_drum ClosedHat srf a5500 a9000 t s = electronic_closed_hat a9000 t s
electronic_drum OpenHat srf a5500 a9000 t s = electronic_open_hat a9000 t s
electronic_drum (Tom above) srf a5500 a9000 t s = electronic_tom above srf t s
electronic_drum Cowbell srf a5500 a9000 t s = electronic_cowbell t s
electronic_drum Crash srf a5500 a9000 t s = electronic_crash a9000 t s
electronic_drum Ride srf a5500 a9000 t s = electronic_ride a9000 t s
electronic_drum Unmapped srf a5500 a9000 t s = electronic_unmapped a9000 t s

-- frame i
abbrev pub electronic_at : Drum → Float → Float → Float → ℕ → ElectronicState → Out ElectronicState
electronic_at drum srf a5500 a9000 i s = electronic_drum drum srf a5500 a9000 (seconds srf i) s

abbrev pub electronic_start : Rng → ElectronicState
electronic_start rng = record { lp = c0; lp2 = c0; phase = c0; rng = rng }

unfoldable pub electronic_frames : Drum → Float → Rng → ℕ → List Float
electronic_frames drum srf rng n =
    samples (electronic_at drum srf (coefficient c5500 srf) (coefficient c9000 srf)) (λ r. r.sample) (λ r. r.state) (electronic_start rng) n
