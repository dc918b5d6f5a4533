-- The generator after n frames of a drum: as many draws on as frames that draw. Assumes nothing.
use Prim.Native.Nat.{ℕ, ◌^◌, ◌<◌}
use mathlib.Core.Path.{◌≡◌, refl, ◌∙◌}
use mathlib.Core.Bool.{cond}
use lib.Ieee.{Float}
use Rattle.laws.specs.Run.{state_at}
use Rattle.laws.proofs.Iterate.{part_iterated}
use Rattle.rng.specs.SplitMix64.{advance, state_after}
use Rattle.osc.specs.Phase.{seconds}
use Rattle.counts.specs.Draws.{passing}
use Rattle.counts.proofs.Drawing.{draws_passing}
use Rattle.kit_counts.specs.KitDraws.{draws_below, classic_draws}
use Rattle.drum.specs.declared.Drum.{Drum}
use Rattle.drum.specs.declared.Drum.TheVariants.{Kick, Snare, Rim, Clap, ClosedHat, OpenHat, Tom, Cowbell, Crash, Ride, Unmapped}
use Rattle.kit_classic.specs.declared.drums.ClassicState.{ClassicState}
use Rattle.kit_classic.specs.Drums.{classic_kick, classic_snare, classic_rim, classic_clap, classic_tom, classic_cowbell, classic_unmapped}
use Rattle.kit_classic.specs.Cymbals.{classic_hiss, classic_ride}
use Rattle.kit_classic.specs.Classic.{classic_drum, classic_at}

drawn_once : (drum : Drum) (srf hpA t : Float) (s : ClassicState) → (classic_drum drum srf hpA t s).state.rng.0 ≡ cond (classic_draws drum t) (advance s.rng.0) s.rng.0
unfolding classic_drum draws_below classic_kick classic_snare classic_rim classic_clap classic_tom classic_cowbell classic_unmapped classic_hiss classic_ride
drawn_once Kick srf hpA t s = refl
drawn_once Snare srf hpA t s = refl
drawn_once Rim srf hpA t s = refl
drawn_once Clap srf hpA t s = refl
drawn_once ClosedHat srf hpA t s = refl
drawn_once OpenHat srf hpA t s = refl
drawn_once (Tom above) srf hpA t s = refl
drawn_once Cowbell srf hpA t s = refl
drawn_once Crash srf hpA t s = refl
drawn_once Ride srf hpA t s = refl
drawn_once Unmapped srf hpA t s = refl

module _ (drum : Drum) (srf hpA : Float) (s : ClassicState) (n : ℕ) where
  pub classic_draws_lem :
      s.rng.0 < 2 ^ 64 →
      (state_at (classic_at drum srf hpA) (λ r. r.sample) (λ r. r.state) s n).rng.0 ≡ state_after s.rng.0 (passing (λ i. classic_draws drum (seconds srf i)) n)
  classic_draws_lem h =
      let draw : ℕ → ℕ → ℕ = λ i s. cond (classic_draws drum (seconds srf i)) (advance s) s in
      part_iterated (classic_at drum srf hpA) (λ r. r.sample) (λ r. r.state) (λ (s : ClassicState). s.rng.0) draw (λ i. drawn_once drum srf hpA (seconds srf i)) s n
      ∙ draws_passing (λ i. classic_draws drum (seconds srf i)) s.rng.0 n h
