-- `kit_drum_808` of render/kit.rs: a frame by the drum, and the note. `srf` is the rate; `a6000`, `cloA` and `chiA` are the filters' coefficients.
use Rattle.std.specs.Prelude.{ℕ, List, Float}
use Rattle.laws.specs.Run.{samples}
use Rattle.ieee.specs.Numbers.{c0}
use Rattle.osc.specs.Phase.{seconds}
use Rattle.rng.specs.declared.Rng.{Rng}
use Rattle.kit_parts.specs.Numbers.{c700, c2200, c6000}
use Rattle.kit_parts.specs.Parts.{coefficient}
use Rattle.drum.specs.declared.Drum.{Drum}
use Rattle.drum.specs.declared.Drum.TheVariants.{Kick, Snare, Rim, Clap, ClosedHat, OpenHat, Tom, Cowbell, Crash, Ride, Unmapped}
use Rattle.kit_808.specs.declared.drums.Eight08State.{Eight08State}
use Rattle.osc.specs.declared.Out.{Out}
use Rattle.kit_808.specs.Drums.{eight08_kick, eight08_snare, eight08_rim, eight08_clap, eight08_tom, eight08_unmapped}
use Rattle.kit_808.specs.Metal.{eight08_closed_hat, eight08_open_hat, eight08_cowbell, eight08_crash, eight08_ride}

-- at the time t
unfoldable pub eight08_drum : Drum → Float → Float → Float → Float → Float → Eight08State → Out Eight08State
eight08_drum Kick srf a6000 cloA chiA t s = eight08_kick srf t s
eight08_drum Snare srf a6000 cloA chiA t s = eight08_snare a6000 t s
eight08_drum Rim srf a6000 cloA chiA t s = eight08_rim t s
eight08_drum Clap srf a6000 cloA chiA t s = eight08_clap cloA chiA t s
eight08_drum ClosedHat srf a6000 cloA chiA t s = eight08_closed_hat a6000 t s
eight08_drum OpenHat srf a6000 cloA chiA t s = eight08_open_hat a6000 t s
eight08_drum (Tom above) srf a6000 cloA chiA t s = eight08_tom above srf t s
eight08_drum Cowbell srf a6000 cloA chiA t s = eight08_cowbell t s
eight08_drum Crash srf a6000 cloA chiA t s = eight08_crash a6000 t s
eight08_drum Ride srf a6000 cloA chiA t s = eight08_ride a6000 t s
eight08_drum Unmapped srf a6000 cloA chiA t s = eight08_unmapped t s

-- frame i
abbrev pub eight08_at : Drum → Float → Float → Float → Float → ℕ → Eight08State → Out Eight08State
eight08_at drum srf a6000 cloA chiA i s = eight08_drum drum srf a6000 cloA chiA (seconds srf i) s

abbrev pub eight08_start : Rng → Eight08State
eight08_start rng = record { hlp = c0; clp = c0; chp = c0; phase = c0; rng = rng }

unfoldable pub eight08_frames : Drum → Float → Rng → ℕ → List Float
eight08_frames drum srf rng n =
    samples (eight08_at drum srf (coefficient c6000 srf) (coefficient c2200 srf) (coefficient c700 srf)) (λ r. r.sample) (λ r. r.state) (eight08_start rng) n
