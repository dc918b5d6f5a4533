-- The drums of this style that are noise and no more: the level of each at the time t, and a frame by its level.
use Rattle.std.specs.Prelude.{ℕ, Float}
use Rattle.ieee.specs.Binary32.{◌⊕◌, ◌⊖◌, ◌⊗◌}
use Rattle.ieee.specs.Numbers.{c0, c0·12, c0·55}
use Rattle.osc.specs.Phase.{seconds}
use Rattle.kit_parts.specs.Numbers.{c0·08, c1·1}
use Rattle.kit_parts.specs.Parts.{fade, filtered, bi, drawn}
use Rattle.drum.specs.declared.Drum.{Drum}
use Rattle.drum.specs.declared.Drum.TheVariants.{Kick, Snare, Rim, Clap, ClosedHat, OpenHat, Tom, Cowbell, Crash, Ride, Unmapped}
use Rattle.kit_808.specs.declared.drums.Eight08State.{Eight08State}
use Rattle.osc.specs.declared.Out.{Out}
use Rattle.kit_808.specs.Drums.{eight08_kick, eight08_snare, eight08_rim, burst_of, eight08_tom}
use Rattle.kit_808.specs.Metal.{eight08_closed_hat, eight08_open_hat, eight08_cowbell, eight08_crash, eight08_ride}

-- a clap's, whose tail has the level x
unfoldable pub eight08_clap_level : Float → Float → Float
eight08_clap_level t x = burst_of t ⊕ c0·55 ⊗ x

-- of a drum that is more than noise 0, which nothing reads
unfoldable pub eight08_level : Drum → Float → Float
eight08_level Kick t = c0
eight08_level Snare t = c0
eight08_level Rim t = c0
eight08_level Clap t = eight08_clap_level t (fade t c0·12)
eight08_level ClosedHat t = c0
eight08_level OpenHat t = c0
eight08_level (Tom above) t = c0
eight08_level Cowbell t = c0
eight08_level Crash t = c0
eight08_level Ride t = c0
eight08_level Unmapped t = fade t c0·08

unfoldable pub eight08_clap_by : Float → Float → Float → Eight08State → Out Eight08State
eight08_clap_by level cloA chiA s =
    let clp = filtered s.clp cloA (bi s.rng) in
    let chp = filtered s.chp chiA clp in
    record {
      sample = (clp ⊖ chp) ⊗ level ⊗ c1·1;
      state = record { hlp = s.hlp; clp = clp; chp = chp; phase = s.phase; rng = drawn s.rng };
    }

unfoldable pub eight08_noise_by : Float → Eight08State → Out Eight08State
eight08_noise_by level s = record {
  sample = bi s.rng ⊗ level;
  state = record { hlp = s.hlp; clp = s.clp; chp = s.chp; phase = s.phase; rng = drawn s.rng };
}

-- frame i, whose level is given
unfoldable pub eight08_by : Drum → Float → Float → Float → Float → Float → ℕ → Eight08State → Out Eight08State
eight08_by Kick level srf a6000 cloA chiA i s = eight08_kick srf (seconds srf i) s
eight08_by Snare level srf a6000 cloA chiA i s = eight08_snare a6000 (seconds srf i) s
eight08_by Rim level srf a6000 cloA chiA i s = eight08_rim (seconds srf i) s
eight08_by Clap level srf a6000 cloA chiA i s = eight08_clap_by level cloA chiA s
eight08_by ClosedHat level srf a6000 cloA chiA i s = eight08_closed_hat a6000 (seconds srf i) s
eight08_by OpenHat level srf a6000 cloA chiA i s = eight08_open_hat a6000 (seconds srf i) s
eight08_by (Tom above) level srf a6000 cloA chiA i s = eight08_tom above srf (seconds srf i) s
eight08_by Cowbell level srf a6000 cloA chiA i s = eight08_cowbell (seconds srf i) s
eight08_by Crash level srf a6000 cloA chiA i s = eight08_crash a6000 (seconds srf i) s
eight08_by Ride level srf a6000 cloA chiA i s = eight08_ride a6000 (seconds srf i) s
eight08_by Unmapped level srf a6000 cloA chiA i s = eight08_noise_by level s
