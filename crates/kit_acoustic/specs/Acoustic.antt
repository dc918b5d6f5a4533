-- `kit_drum_acoustic` of render/kit.rs: a frame by the drum, and the note. `srf` is the rate.
use Rattle.std.specs.Prelude.{ℕ, List, Float}
use Rattle.laws.specs.Run.{samples}
use Rattle.ieee.specs.Numbers.{c0}
use Rattle.osc.specs.Phase.{seconds}
use Rattle.rng.specs.declared.Rng.{Rng}
use Rattle.kit_parts.specs.Numbers.{c400, c900, c2000, c2500, c3000, c3500, c4000, c6500, c7000, c8000, c11000, c12000}
use Rattle.kit_parts.specs.Parts.{coefficient}
use Rattle.drum.specs.declared.Drum.{Drum}
use Rattle.drum.specs.declared.Drum.TheVariants.{Kick, Snare, Rim, Clap, ClosedHat, OpenHat, Tom, Cowbell, Crash, Ride, Unmapped}
use Rattle.kit_acoustic.specs.declared.drums.Coefficients.{Coefficients}
use Rattle.kit_acoustic.specs.declared.drums.AcousticState.{AcousticState}
use Rattle.osc.specs.declared.Out.{Out}
use Rattle.kit_acoustic.specs.Drums.{acoustic_kick, acoustic_snare, acoustic_rim, acoustic_tom, acoustic_cowbell, acoustic_unmapped}
use Rattle.kit_acoustic.specs.Clap.{acoustic_clap}
use Rattle.kit_acoustic.specs.Cymbals.{acoustic_closed_hat, acoustic_open_hat, acoustic_crash, acoustic_ride}

-- let a = |fc: f32| 1.0 - dsp::exp(-TAU * fc / srf)
unfoldable pub coefficients_of : Float → Coefficients
coefficients_of srf =
    let a : Float → Float = λ fc. coefficient fc srf in
    record {
      a400 = a c400;
      a900 = a c900;
      a2000 = a c2000;
      a2500 = a c2500;
      a3000 = a c3000;
      a3500 = a c3500;
      a4000 = a c4000;
      a6500 = a c6500;
      a7000 = a c7000;
      a8000 = a c8000;
      a11000 = a c11000;
      a12000 = a c12000;
    }

-- at the time t
unfoldable pub acoustic_drum : Drum → Coefficients → Float → Float → AcousticState → Out AcousticState
acoustic_drum Kick k srf t s = acoustic_kick k srf t s
acoustic_drum Snare k srf t s = acoustic_snare k t s
acoustic_drum Rim k srf t s = acoustic_rim k t s
acoustic_drum Clap k srf t s = acoustic_clap k t s
acoustic_drum ClosedHat k srf t s = acoustic_closed_hat k t s
acoustic_drum OpenHat k srf t s = acoustic_open_hat k t s
acoustic_drum (Tom above) k srf t s = acoustic_tom above k srf t s
acoustic_drum Cowbell k srf t s = acoustic_cowbell t s
acoustic_drum Crash k srf t s = acoustic_crash k t s
acoustic_drum Ride k srf t s = acoustic_ride k t s
acoustic_drum Unmapped k srf t s = acoustic_unmapped k t s

-- frame i
abbrev pub acoustic_at : Drum → Coefficients → Float → ℕ → AcousticState → Out AcousticState
acoustic_at drum k srf i s = acoustic_drum drum k srf (seconds srf i) s

abbrev pub acoustic_start : Rng → AcousticState
acoustic_start rng = record { lpa = c0; lpb = c0; hpa = c0; phase = c0; phase2 = c0; rng = rng }

unfoldable pub acoustic_frames : Drum → Float → Rng → ℕ → List Float
acoustic_frames drum srf rng n = samples (acoustic_at drum (coefficients_of srf) srf) (λ r. r.sample) (λ r. r.state) (acoustic_start rng) n
