-- The screen's list has each note once and is in order, and its total is the engine's. Assumes nothing.
use mathlib.Core.Path.{◌≡◌, sym, ap, ◌∙◌}
use mathlib.Core.List.{Permᴰ}
use Rattle.laws.specs.Listed.{listed}
use Rattle.laws.proofs.Listed.{from_map}
use Rattle.score.specs.Score.{Score, note_in, note_count, note_draws, sum, score_draws}
use Rattle.plan.specs.Order.{InOrder}
use Rattle.plan.specs.Plan.{start_at, screen_list, draws_at, planned_draws}
use Rattle.plan.proofs.Sorting.{sorted_permutation, sorted_order, sum_permutation}

module _ (s : Score) where
  -- THE THEOREM: the screen lists each place of the notes once
  pub screen_permutation : Permᴰ (screen_list s) (listed (λ k. k) (note_count s))
  screen_permutation = sorted_permutation (start_at s) (listed (λ k. k) (note_count s))

  -- THE THEOREM: by start frame, ties by list place
  pub screen_order : InOrder (start_at s) (screen_list s)
  screen_order = sorted_order (start_at s) (listed (λ k. k) (note_count s))

  -- THE THEOREM: the two totals are equal, as whole numbers of any size, for every list of notes
  pub totals_equal : planned_draws s ≡ score_draws s
  unfolding planned_draws score_draws
  totals_equal =
      sum_permutation (draws_at s) screen_permutation
      ∙ ap sum (from_map (draws_at s) (λ k. k) (note_count s) 0 ∙ sym (from_map (note_draws s) (note_in s) (note_count s) 0))
