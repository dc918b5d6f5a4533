-- The generator after n frames of a drum: as many draws on as frames that draw. Assumes nothing.
use Prim.Native.Nat.{ℕ, ◌^◌, ◌<◌}
use mathlib.Core.Path.{◌≡◌, refl, ◌∙◌}
use mathlib.Core.Bool.{cond}
use lib.Ieee.{Float}
use Rattle.laws.specs.Run.{state_at}
use Rattle.laws.proofs.Iterate.{part_iterated}
use Rattle.rng.specs.SplitMix64.{advance, state_after}
use Rattle.osc.specs.Phase.{seconds}
use Rattle.counts.specs.Draws.{passing}
use Rattle.counts.proofs.Drawing.{draws_passing}
use Rattle.kit_counts.specs.KitDraws.{draws_below, electronic_draws}
use Rattle.drum.specs.declared.Drum.{Drum}
use Rattle.drum.specs.declared.Drum.TheVariants.{Kick, Snare, Rim, Clap, ClosedHat, OpenHat, Tom, Cowbell, Crash, Ride, Unmapped}
use Rattle.kit_electronic.specs.declared.drums.ElectronicState.{ElectronicState}
use Rattle.kit_electronic.specs.Drums.{electronic_kick, electronic_snare, electronic_rim, electronic_clap, electronic_tom, electronic_cowbell}
use Rattle.kit_electronic.specs.Cymbals.{electronic_hiss, electronic_glassy, electronic_ride}
use Rattle.kit_electronic.specs.Electronic.{electronic_drum, electronic_at}

drawn_once : (drum : Drum) (srf a5500 a9000 t : Float) (s : ElectronicState) → (electronic_drum drum srf a5500 a9000 t s).state.rng.0 ≡ cond (electronic_draws drum t) (advance s.rng.0) s.rng.0
unfolding electronic_drum draws_below electronic_kick electronic_snare electronic_rim electronic_clap electronic_tom electronic_cowbell electronic_hiss electronic_glassy
    electronic_ride
drawn_once Kick srf a5500 a9000 t s = refl
drawn_once Snare srf a5500 a9000 t s = refl
drawn_once Rim srf a5500 a9000 t s = refl
drawn_once Clap srf a5500 a9000 t s = refl
drawn_once ClosedHat srf a5500 a9000 t s = refl
drawn_once OpenHat srf a5500 a9000 t s = refl
drawn_once (Tom above) srf a5500 a9000 t s = refl
drawn_once Cowbell srf a5500 a9000 t s = refl
drawn_once Crash srf a5500 a9000 t s = refl
drawn_once Ride srf a5500 a9000 t s = refl
drawn_once Unmapped srf a5500 a9000 t s = refl

module _ (drum : Drum) (srf a5500 a9000 : Float) (s : ElectronicState) (n : ℕ) where
  pub electronic_draws_lem :
      s.rng.0 < 2 ^ 64 →
      (state_at (electronic_at drum srf a5500 a9000) (λ r. r.sample) (λ r. r.state) s n).rng.0 ≡ state_after s.rng.0 (passing (λ i. electronic_draws drum (seconds srf i)) n)
  electronic_draws_lem h =
      let draw : ℕ → ℕ → ℕ = λ i s. cond (electronic_draws drum (seconds srf i)) (advance s) s in
      part_iterated (electronic_at drum srf a5500 a9000) (λ r. r.sample) (λ r. r.state) (λ (s : ElectronicState). s.rng.0) draw (λ i. drawn_once drum srf a5500 a9000 (seconds srf i)) s n
      ∙ draws_passing (λ i. electronic_draws drum (seconds srf i)) s.rng.0 n h
