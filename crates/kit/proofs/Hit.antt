-- A hit's frames and the generator after it, from what its style gives at the drum and the rate. Assumes nothing.
use Rattle.std.proofs.Common.{◌≡◌, ℕ, List, ap, ◌∙◌}
use lib.Ieee.{Float}
use Rattle.ieee.specs.Numbers.{f32}
use Rattle.rng.specs.SplitMix64.{state_after}
use Rattle.rng.specs.declared.Rng.{Rng}
use Rattle.osc.specs.Phase.{seconds}
use Rattle.dsl.specs.Domain.{Rate, Frames}
use Rattle.dsl.specs.declared.kit.KitStyle.{KitStyle}
use Rattle.drum.specs.declared.Drum.{Drum}
use Rattle.counts.specs.Draws.{passing}
use Rattle.kit_counts.specs.KitDraws.{draws_at, kit_draws}
use Rattle.kit_counts.proofs.Hits.{kit_count}
use Rattle.kit_midi.specs.Midi.{first_drum}
use Rattle.kit.specs.Kit.{style_frames, kit_frames}

module _ (style : KitStyle) (first : Float) (rate : ℕ) (rng : Rng) (n : ℕ) {drum : Drum} {srf : Float} where
  pub hit_frames : {out : List Float} → drum ≡ first_drum first → srf ≡ f32 rate → out ≡ style_frames style drum srf rng n → out ≡ kit_frames style first rate rng n
  hit_frames d e h = h ∙ rw (d, e)

  pub hit_left :
      {after : ℕ} →
      Rate rate →
      Frames n →
      drum ≡ first_drum first →
      srf ≡ f32 rate →
      after ≡ state_after rng.0 (passing (λ i. draws_at style drum (seconds srf i)) n) →
      after ≡ state_after rng.0 (kit_draws style (first_drum first) rate n)
  hit_left r few d e h =
      h ∙ ap (λ (srf : Float). state_after rng.0 (passing (λ i. draws_at style drum (seconds srf i)) n)) e
      ∙ ap (state_after rng.0) (kit_count style drum rate n r few.most)
      ∙ ap (λ (drum : Drum). state_after rng.0 (kit_draws style drum rate n)) d
