-- The verdicts of a score's notes and of the whole call, from those of its parts. Assumes nothing.
use Prim.Native.Nat.{ℕ, ◌≤◌}
use mathlib.Core.Path.{◌≡◌, refl, sym, ap, ◌∙◌}
use mathlib.Core.List.{List, [], ◌∷◌, ◌++◌, map}
use mathlib.Core.Bool.{Bool, true, false, not, cond}
use lib.ListN.{length}
use borrow.Author.Tests.{not-false}
use Rattle.laws.specs.Listed.{listed}
use Rattle.laws.proofs.Listed.{from_map}
use lib.Ieee.{Float}
use Rattle.dsl.specs.Domain.{Frames, numeric}
use Rattle.dsl.specs.Pitch.{is_curve, passes}
use Rattle.dsl.specs.declared.pitch.Pitch.TheVariants.{Const}
use Rattle.dsl.specs.declared.note.SeqNote.{SeqNote}
use Rattle.dsl.specs.declared.note.Untuned.{Untuned}
use Rattle.dsl.specs.declared.note.Decoded.{Decoded}
use Rattle.dsl.specs.declared.note.Decoded.TheVariants.{Note, NoTone}
use Rattle.dsl.proofs.Magnitude.{sized_numeric}
use Rattle.dsl.proofs.Reach.{number_passes}
use Rattle.outcome.specs.First.{Test, ◌⇒◌, first_of, or_else, first_refusal, first_after}
use Rattle.outcome.specs.declared.answer.Refusal.{Refusal}
use Rattle.outcome.specs.declared.answer.Refusal.TheVariants.{Reach}
use Rattle.outcome.specs.Outcome.{Verdict}
use Rattle.std.specs.Prelude.{Ok, Err}
use Rattle.outcome.proofs.First.{none_holds, turned, chain_refused, chain_fine}
use Rattle.score.specs.Score.{Score, note_in, note_count, notes_in, place}
use Rattle.score.specs.Refusals.{number_tests, voice_tests, lent_tests, list_tests, call_tests, value_tests, note_tests, untuned_tests, note_refusal, refusal}
use Rattle.score.proofs.Accepted.{Fit, fit}

-- ---- one note
module _ (s : Score) (m : SeqNote) where
  pub values_refuse : {r : Refusal} → Err r ≡ first_after (Ok tt) (value_tests m) → Err r ≡ first_of (note_tests s m)
  values_refuse found = chain_refused (value_tests m) _ found

  module _ (fine : Ok tt ≡ first_after (Ok tt) (value_tests m)) where
    pub values_number : numeric m.pitch
    values_number = let (_, (_, (_, (p, _)))) = none_holds (value_tests m) (sym (fine ∙ turned (Ok tt) (value_tests m))) in sized_numeric m.pitch (not-false _ p)

    pub reach_decides : {v : Verdict} → v ≡ cond (passes m.pitch s.seq.hop (length s.lane) (place s m).len) (Err Reach) (Ok tt) → v ≡ first_of (note_tests s m)
    unfolding first_of
    reach_decides found = chain_fine (value_tests m) ((passes m.pitch s.seq.hop (length s.lane) (place s m).len ⇒ Reach) ∷ []) fine found

    -- a number passes no lane's end, and what is no curve is one
    pub number_decides : (x : Float) → m.pitch ≡ Const x → Ok tt ≡ first_of (note_tests s m)
    number_decides x is = reach_decides (rw is refl)

    pub uncurved_decides : is_curve m.pitch ≡ false → Ok tt ≡ first_of (note_tests s m)
    uncurved_decides is = reach_decides (rw (number_passes m.pitch s.seq.hop (length s.lane) (place s m).len is) refl)

-- words that are a note, or one without its quarter tone
module _ (s : Score) (e : Decoded) where
  pub note_decides : (m : SeqNote) → e ≡ Note m → {v : Verdict} → v ≡ first_of (note_tests s m) → v ≡ note_refusal s e
  unfolding note_refusal
  note_decides m is found = found ∙ ap (note_refusal s) (sym is)

  pub untuned_decides : (u : Untuned) → e ≡ NoTone u → {v : Verdict} → v ≡ first_after (Ok tt) (untuned_tests u) → v ≡ note_refusal s e
  unfolding note_refusal
  untuned_decides u is found = found ∙ turned (Ok tt) (untuned_tests u) ∙ ap (note_refusal s) (sym is)

-- ---- all notes
abbrev pub verdict_in : Score → ℕ → Verdict
verdict_in s k = note_refusal s (note_in s k)

pub all_notes : (s : Score) {v : Verdict} → v ≡ first_refusal (listed (verdict_in s) (note_count s)) → v ≡ first_refusal (map (note_refusal s) (notes_in s))
all_notes s e = e ∙ ap first_refusal (sym (from_map (note_refusal s) (note_in s) (note_count s) 0))

-- ---- the call
module _ (s : Score) where
  abbrev numbers : List Test
  numbers = number_tests s.seq.timing s.n

  abbrev lists : List Test
  lists = voice_tests s.seq ++ (lent_tests s ++ list_tests s)

  refuses : {r : Refusal} → Err r ≡ first_of (call_tests s) → Err r ≡ refusal s
  unfolding refusal
  refuses e = ap (λ (v : Verdict). or_else v (first_refusal (map (note_refusal s) (notes_in s)))) e

  pub numbers_refuse : {r : Refusal} → Err r ≡ first_after (Ok tt) numbers → Err r ≡ refusal s
  numbers_refuse e = refuses (chain_refused numbers lists e)

  module _ (numbered : Ok tt ≡ first_after (Ok tt) numbers) where
    decided : {v : Verdict} → v ≡ first_after (Ok tt) lists → v ≡ first_of (call_tests s)
    decided e = chain_fine numbers lists numbered (e ∙ turned (Ok tt) lists)

    pub lists_refuse : {r : Refusal} → Err r ≡ first_after (Ok tt) lists → Err r ≡ refusal s
    lists_refuse e = refuses (decided e)

    module _ (fine : Ok tt ≡ first_after (Ok tt) lists) where
      pub call_fit : Fit s
      call_fit = fit s (sym (decided fine))

      pub notes_decide : {v : Verdict} → v ≡ first_refusal (map (note_refusal s) (notes_in s)) → v ≡ refusal s
      unfolding refusal
      notes_decide e = e ∙ ap (λ (v : Verdict). or_else v (first_refusal (map (note_refusal s) (notes_in s)))) (decided fine)
