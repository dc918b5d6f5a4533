-- A score as 01 alone has it, with no hop: "a curve at frame i is the lane's value at offset + i", which is `value_at` of dsl/specs/Pitch. That a score whose hop is 1 is refused and
-- played so: proofs/EachFrame.
use Rattle.std.specs.Prelude.{ℕ, ◌+◌, ◌-◌, ◌%◌, ◌^◌, List, [], ◌∷◌, ◌++◌, map, Bool, false, not, cond, length, ltb, eqb, Err}
use Rattle.dsl.specs.Sized.{all_sized}
use Rattle.dsl.specs.Note.{of_words, of_note}
use Rattle.dsl.specs.Pitch.{value_at}
use Rattle.dsl.specs.declared.pitch.Pitch.{Pitch}
use Rattle.dsl.specs.declared.pitch.Pitch.TheVariants.{Const, Curve}
use Rattle.dsl.specs.declared.note.SeqNote.{SeqNote}
use Rattle.dsl.specs.declared.note.Decoded.{Decoded}
use Rattle.draws.specs.Draws.{draws_of}
use Rattle.outcome.specs.First.{Test, ◌⇒◌, first_of, or_else, first_refusal}
use Rattle.outcome.specs.declared.answer.Refusal.TheVariants.{Words, Lane, Kind, Reach, Draws}
use Rattle.outcome.specs.Outcome.{Verdict}
use Rattle.score.specs.Score.{Score, rate_in, wave_in, kit_in, notes_in, place, skips, sum}
use Rattle.score.specs.Refusals.{number_tests, voice_tests, lent_tests, value_tests, untuned_tests}

-- 01's 12: "offset + length .. passes the lane's end", of a lane of l values
abbrev pub each_passes : Pitch → ℕ → ℕ → Bool
each_passes (Const x) l length = false
each_passes (Curve offset) l length = ltb l (offset + length)

module _ (s : Score) where
  -- "7 note words not a multiple of five; 11 a lane value, used or not, isn't sized"; no 35
  abbrev pub each_list_tests : List Test
  each_list_tests = (not (eqb (length s.notes % 5) 0) ⇒ Words) ∷ (not (all_sized s.lane) ⇒ Lane) ∷ []

  abbrev pub each_note_tests : SeqNote → List Test
  each_note_tests m = value_tests m ++ (each_passes m.pitch (length s.lane) (place s m).len ⇒ Reach) ∷ []

  unfoldable pub each_note_refusal : Decoded → Verdict
  each_note_refusal = of_words (Err Kind) (λ u. first_of (untuned_tests u)) (λ m. first_of (each_note_tests m))

  -- all but 22
  unfoldable pub each_refusal : Verdict
  each_refusal =
      or_else (first_of (number_tests s.seq.timing s.n ++ (voice_tests s.seq ++ (lent_tests s ++ each_list_tests)))) (first_refusal (map each_note_refusal (notes_in s)))

  -- a note's draws, by its curve's first value
  unfoldable pub each_draws_in : SeqNote → ℕ
  each_draws_in m = cond (skips s m) 0 (draws_of (wave_in s) (kit_in s) (rate_in s) (value_at m.pitch s.lane 0) (place s m).sounded)

  unfoldable pub each_note_draws : Decoded → ℕ
  each_note_draws = of_note 0 each_draws_in

  unfoldable pub each_score_draws : ℕ
  each_score_draws = sum (map each_note_draws (notes_in s))

  -- with 22, from draw d on
  unfoldable pub each_refusal_at : ℕ → Verdict
  each_refusal_at d = or_else each_refusal (first_of ((ltb (2 ^ 64 - 1) (d + each_score_draws) ⇒ Draws) ∷ []))
