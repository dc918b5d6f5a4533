-- The generator after n frames of a drum: as many draws on as frames that draw. Assumes nothing.
use Prim.Native.Nat.{ℕ, ◌^◌, ◌<◌}
use mathlib.Core.Path.{◌≡◌, refl, ◌∙◌}
use mathlib.Core.Bool.{cond}
use lib.Ieee.{Float}
use Rattle.laws.specs.Run.{state_at}
use Rattle.laws.proofs.Iterate.{part_iterated}
use Rattle.rng.specs.SplitMix64.{advance, state_after}
use Rattle.osc.specs.Phase.{seconds}
use Rattle.counts.specs.Draws.{passing}
use Rattle.counts.proofs.Drawing.{draws_passing}
use Rattle.kit_counts.specs.KitDraws.{eight08_draws}
use Rattle.drum.specs.declared.Drum.{Drum}
use Rattle.drum.specs.declared.Drum.TheVariants.{Kick, Snare, Rim, Clap, ClosedHat, OpenHat, Tom, Cowbell, Crash, Ride, Unmapped}
use Rattle.kit_808.specs.declared.drums.Eight08State.{Eight08State}
use Rattle.kit_808.specs.Drums.{eight08_kick, eight08_snare, eight08_rim, eight08_clap, eight08_tom, eight08_unmapped}
use Rattle.kit_808.specs.Metal.{eight08_hat, eight08_cowbell, eight08_crash, eight08_ride}
use Rattle.kit_808.specs.Eight08.{eight08_drum, eight08_at}

drawn_once : (drum : Drum) (srf a6000 cloA chiA t : Float) (s : Eight08State) → (eight08_drum drum srf a6000 cloA chiA t s).state.rng.0 ≡ cond (eight08_draws drum t) (advance s.rng.0) s.rng.0
unfolding eight08_drum eight08_draws eight08_kick eight08_snare eight08_rim eight08_clap eight08_tom eight08_cowbell eight08_unmapped eight08_hat eight08_crash eight08_ride
drawn_once Kick srf a6000 cloA chiA t s = refl
drawn_once Snare srf a6000 cloA chiA t s = refl
drawn_once Rim srf a6000 cloA chiA t s = refl
drawn_once Clap srf a6000 cloA chiA t s = refl
drawn_once ClosedHat srf a6000 cloA chiA t s = refl
drawn_once OpenHat srf a6000 cloA chiA t s = refl
drawn_once (Tom above) srf a6000 cloA chiA t s = refl
drawn_once Cowbell srf a6000 cloA chiA t s = refl
drawn_once Crash srf a6000 cloA chiA t s = refl
drawn_once Ride srf a6000 cloA chiA t s = refl
drawn_once Unmapped srf a6000 cloA chiA t s = refl

module _ (drum : Drum) (srf a6000 cloA chiA : Float) (s : Eight08State) (n : ℕ) where
  pub eight08_draws_lem :
      s.rng.0 < 2 ^ 64 →
      (state_at (eight08_at drum srf a6000 cloA chiA) (λ r. r.sample) (λ r. r.state) s n).rng.0 ≡ state_after s.rng.0 (passing (λ i. eight08_draws drum (seconds srf i)) n)
  eight08_draws_lem h =
      let draw : ℕ → ℕ → ℕ = λ i s. cond (eight08_draws drum (seconds srf i)) (advance s) s in
      part_iterated (eight08_at drum srf a6000 cloA chiA) (λ r. r.sample) (λ r. r.state) (λ (s : Eight08State). s.rng.0) draw (λ i. drawn_once drum srf a6000 cloA chiA (seconds srf i)) s n
      ∙ draws_passing (λ i. eight08_draws drum (seconds srf i)) s.rng.0 n h
