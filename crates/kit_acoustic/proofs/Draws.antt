-- The generator after n frames of a drum: as many draws on as frames that draw. Assumes nothing.
use Prim.Native.Nat.{ℕ, ◌^◌, ◌<◌}
use mathlib.Core.Path.{◌≡◌, refl, ◌∙◌}
use mathlib.Core.Bool.{Bool, true, false, cond}
use lib.Ieee.{Float}
use Rattle.laws.specs.Run.{state_at}
use Rattle.laws.proofs.Iterate.{part_iterated}
use Rattle.rng.specs.SplitMix64.{advance, state_after}
use Rattle.rng.specs.declared.Rng.{Rng}
use Rattle.osc.specs.Phase.{seconds}
use Rattle.counts.specs.Draws.{passing}
use Rattle.counts.proofs.Drawing.{draws_passing}
use Rattle.kit_counts.specs.KitDraws.{draws_below, acoustic_draws}
use Rattle.drum.specs.declared.Drum.{Drum}
use Rattle.drum.specs.declared.Drum.TheVariants.{Kick, Snare, Rim, Clap, ClosedHat, OpenHat, Tom, Cowbell, Crash, Ride, Unmapped}
use Rattle.kit_acoustic.specs.declared.drums.Coefficients.{Coefficients}
use Rattle.kit_acoustic.specs.declared.drums.Knock.{Knock}
use Rattle.kit_acoustic.specs.declared.drums.AcousticState.{AcousticState}
use Rattle.kit_acoustic.specs.Drums.{knocks, acoustic_kick, acoustic_snare, acoustic_knock, acoustic_rim, acoustic_tom, acoustic_cowbell, acoustic_unmapped}
use Rattle.kit_acoustic.specs.Clap.{acoustic_clap}
use Rattle.kit_acoustic.specs.Cymbals.{acoustic_closed_hat, acoustic_open_hat, acoustic_crash, acoustic_ride}
use Rattle.kit_acoustic.specs.Acoustic.{acoustic_drum, acoustic_at}

-- the generator of the knock that a test picks
picked : (b : Bool) (x y : Knock) → (cond b x y).rng.0 ≡ cond b x.rng.0 y.rng.0
picked true x y = refl
picked false x y = refl

knock_rng : (k : Coefficients) (t past : Float) (rng : Rng) → (acoustic_knock k t past rng).rng.0 ≡ cond (knocks t) (advance rng.0) rng.0
unfolding acoustic_knock
knock_rng k t past rng = picked (knocks t) _ _

drawn_once : (drum : Drum) (k : Coefficients) (srf t : Float) (s : AcousticState) → (acoustic_drum drum k srf t s).state.rng.0 ≡ cond (acoustic_draws drum t) (advance s.rng.0) s.rng.0
unfolding acoustic_drum draws_below acoustic_kick acoustic_snare acoustic_rim acoustic_clap acoustic_tom acoustic_cowbell acoustic_unmapped acoustic_closed_hat acoustic_open_hat
    acoustic_crash acoustic_ride
drawn_once Kick k srf t s = knock_rng k t s.lpa s.rng
drawn_once Snare k srf t s = refl
drawn_once Rim k srf t s = refl
drawn_once Clap k srf t s = refl
drawn_once ClosedHat k srf t s = refl
drawn_once OpenHat k srf t s = refl
drawn_once (Tom above) k srf t s = refl
drawn_once Cowbell k srf t s = refl
drawn_once Crash k srf t s = refl
drawn_once Ride k srf t s = refl
drawn_once Unmapped k srf t s = refl

module _ (drum : Drum) (k : Coefficients) (srf : Float) (s : AcousticState) (n : ℕ) where
  pub acoustic_draws_lem :
      s.rng.0 < 2 ^ 64 →
      (state_at (acoustic_at drum k srf) (λ r. r.sample) (λ r. r.state) s n).rng.0 ≡ state_after s.rng.0 (passing (λ i. acoustic_draws drum (seconds srf i)) n)
  acoustic_draws_lem h =
      let draw : ℕ → ℕ → ℕ = λ i s. cond (acoustic_draws drum (seconds srf i)) (advance s) s in
      part_iterated (acoustic_at drum k srf) (λ r. r.sample) (λ r. r.state) (λ (s : AcousticState). s.rng.0) draw (λ i. drawn_once drum k srf (seconds srf i)) s n
      ∙ draws_passing (λ i. acoustic_draws drum (seconds srf i)) s.rng.0 n h
