-- "With h = 1 all scores play as they did": a score whose hop is 1 is refused and draws as 01 alone has it (`EachFrame` of specs/). Where its notes stand, `place_of`, is not asked for
-- a hop; of its frames see score_contract/proofs/EachFrame. Assumes nothing.
use Prim.Native.Nat.{ℕ, ◌+◌, ◌-◌, ◌/◌, ◌^◌, ◌≤◌}
use mathlib.Core.Path.{◌≡◌, refl, sym, ap, ◌∙◌}
use mathlib.Core.List.{[], ◌∷◌, ◌++◌, map}
use mathlib.Core.Bool.{Bool, true, false, not, cond}
use native.Mathlib.Omega.{arith}
use native.Mathlib.Nat.{div-one}
use borrow.Author.Tests.{lt-ltb, le-ltb, ltb-true, ltb-false}
use lib.Dec.{ltb}
use lib.ListN.{length}
use Rattle.dsl.specs.Pitch.{value_at, reading, pitch_at, passes}
use Rattle.dsl.specs.declared.pitch.Pitch.{Pitch}
use Rattle.dsl.specs.declared.pitch.Pitch.TheVariants.{Const, Curve}
use Rattle.dsl.specs.declared.note.SeqNote.{SeqNote}
use Rattle.dsl.specs.declared.note.Decoded.{Decoded}
use Rattle.dsl.proofs.Hop.{each_frame}
use Rattle.dsl.proofs.Cases.{by_words}
use Rattle.draws.specs.Draws.{draws_of}
use Rattle.outcome.specs.First.{◌⇒◌, first_of, or_else, first_refusal}
use Rattle.outcome.specs.declared.answer.Refusal.TheVariants.{Reach, Draws}
use Rattle.score.specs.Score.{Score, rate_in, wave_in, kit_in, notes_in, place, skips, pitch, draws_in, note_draws, sum, score_draws}
use Rattle.score.specs.Refusals.{number_tests, voice_tests, lent_tests, value_tests, call_tests, note_refusal, refusal, refusal_at}
use Rattle.score.specs.EachFrame.{each_passes, each_list_tests, each_note_refusal, each_refusal, each_draws_in, each_note_draws, each_score_draws, each_refusal_at}
use Rattle.score.proofs.Standing.{len_least}

-- THE THEOREM: at the hop 1 refusal 12 is 01's
pub hop_1_passes : (p : Pitch) (l length : ℕ) → 1 ≤ length → passes p 1 l length ≡ each_passes p l length
hop_1_passes (Const x) l length some = refl
hop_1_passes (Curve offset) l length some = by (ltb (offset + (length - 1) / 1) l) refl
  where
    place_is : offset + (length - 1) / 1 ≡ offset + (length - 1)
    place_is = ap (λ (k : ℕ). offset + k) (div-one (length - 1))

    by : (b : Bool) → ltb (offset + (length - 1) / 1) l ≡ b → not b ≡ ltb l (offset + length)
    by true e = sym (le-ltb l (offset + length) (omega (arith, ltb-true (offset + (length - 1) / 1) l e, place_is)))
    by false e = sym (lt-ltb l (offset + length) (omega (arith, ltb-false (offset + (length - 1) / 1) l e, place_is)))

module _ (s : Score) (one : s.seq.hop ≡ 1) where
  -- a note's pitch at each frame
  pub hop_1_pitch : (m : SeqNote) → pitch s m ≡ value_at m.pitch s.lane
  hop_1_pitch m = λ j i. (ap (λ (h : ℕ). pitch_at (reading m.pitch h) s.lane i) one ∙ each_frame m.pitch s.lane i) j

  passes_same : (m : SeqNote) → passes m.pitch s.seq.hop (length s.lane) (place s m).len ≡ each_passes m.pitch (length s.lane) (place s m).len
  passes_same m = rw one (hop_1_passes m.pitch (length s.lane) (place s m).len (len_least s.seq.timing s.n m))

  note_same : (e : Decoded) → note_refusal s e ≡ each_note_refusal s e
  unfolding note_refusal each_note_refusal
  note_same = by_words (λ e. note_refusal s e ≡ each_note_refusal s e) (λ m. ap (λ (b : Bool). first_of (value_tests m ++ (b ⇒ Reach) ∷ [])) (passes_same m)) (λ u. refl) refl

  tests_same : first_of (call_tests s) ≡ first_of (number_tests s.seq.timing s.n ++ (voice_tests s.seq ++ (lent_tests s ++ each_list_tests s)))
  unfolding first_of
  tests_same = rw one

  -- THE THEOREM: it is refused as 01 alone has it
  pub hop_1_refusal : refusal s ≡ each_refusal s
  unfolding refusal each_refusal
  hop_1_refusal = λ j. or_else (tests_same j) (first_refusal (map (λ e. note_same e j) (notes_in s)))

  draws_same : (m : SeqNote) → draws_in s m ≡ each_draws_in s m
  unfolding draws_in each_draws_in
  draws_same m = λ j. cond (skips s m) 0 (draws_of (wave_in s) (kit_in s) (rate_in s) (hop_1_pitch m j 0) (place s m).sounded)

  -- the draws of each note
  pub hop_1_note_draws : (e : Decoded) → note_draws s e ≡ each_note_draws s e
  unfolding note_draws each_note_draws
  hop_1_note_draws = by_words (λ e. note_draws s e ≡ each_note_draws s e) draws_same (λ u. refl) refl

  -- and their sum
  pub hop_1_draws : score_draws s ≡ each_score_draws s
  unfolding score_draws each_score_draws
  hop_1_draws = λ j. sum (map (λ e. hop_1_note_draws e j) (notes_in s))

  pub hop_1_refusal_at : (d : ℕ) → refusal_at s d ≡ each_refusal_at s d
  unfolding refusal_at each_refusal_at
  hop_1_refusal_at d = λ j. or_else (hop_1_refusal j) (first_of ((ltb (2 ^ 64 - 1) (d + hop_1_draws j) ⇒ Draws) ∷ []))
