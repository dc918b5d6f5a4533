-- "8 now means a kind above 2": a note of such a kind is refused with 8, and no other note is. Assumes nothing.
use Prim.Native.Nat.{ℕ, zero, suc, ◌<◌}
use mathlib.Core.Path.{◌≡◌, refl, sym, ap, ◌∙◌}
use mathlib.Core.List.{List, [], ◌∷◌}
use mathlib.Core.Bool.{Bool, true, false, cond, false≢true}
use native.Mathlib.Omega.{arith}
use borrow.Author.Tests.{ne_eqb}
use lib.Dec.{ltb, eqb}
use Rattle.quarter_tone.specs.Tones.{tone_at}
use Rattle.quarter_tone.specs.Lookup.{tone_of}
use Rattle.std.specs.Prelude.{None, Some, Ok, Err}
use Rattle.dsl.specs.Note.{tuned_of, note_of}
use Rattle.dsl.specs.declared.note.SeqNote.{SeqNote}
use Rattle.dsl.specs.declared.note.Untuned.{Untuned}
use Rattle.dsl.specs.declared.note.Decoded.TheVariants.{Note, NoTone}
use Rattle.outcome.specs.Answer.{number_of}
use Rattle.outcome.specs.First.{Test, first_of}
use Rattle.outcome.specs.declared.answer.Refusal.TheVariants.{Kind}
use Rattle.outcome.specs.Outcome.{Verdict}
use Rattle.score.specs.Score.{Score}
use Rattle.score.specs.Refusals.{note_tests, untuned_tests, note_refusal}

-- whether 8 refuses
abbrev eight : Verdict → Bool
eight (Ok _) = false
eight (Err why) = eqb (number_of why) 8

-- no test of a list has the number 8
abbrev Others : List Test → Type 0
Others [] = Unit
Others (t ∷ ts) = (eight (Err t.refusal) ≡ false) × Others ts

neither : (b : Bool) (v w : Verdict) → eight v ≡ false → eight w ≡ false → eight (cond b v w) ≡ false
neither true v w p q = p
neither false v w p q = q

others : (ts : List Test) → Others ts → eight (first_of ts) ≡ false
unfolding first_of
others [] o = refl
others (t ∷ ts) o = neither t.holds (Err t.refusal) (first_of ts) o.0 (others ts o.1)

module _ (s : Score) where
  of_note_lem : (m : SeqNote) → eight (note_refusal s (Note m)) ≡ false
  unfolding note_refusal
  of_note_lem m = others (note_tests s m) (refl, (refl, (refl, (refl, (refl, tt)))))

  of_untuned : (u : Untuned) → eight (note_refusal s (NoTone u)) ≡ false
  unfolding note_refusal
  of_untuned u = others (untuned_tests u) (refl, (refl, (refl, (refl, tt))))

module _ (s : Score) (step len word gain : ℕ) where
  of_tone : (b : Bool) → eight (note_refusal s (tuned_of step len (cond b (Some (tone_at word)) None) gain)) ≡ false
  of_tone true = of_note_lem s _
  of_tone false = of_untuned s _

  to_2 : (kind : ℕ) → eight (note_refusal s (note_of step len kind word gain)) ≡ true → 2 < kind
  unfolding note_of tone_of
  to_2 zero e = absurd (false≢true (sym (of_note_lem s _) ∙ e))
  to_2 (suc zero) e = absurd (false≢true (sym (of_note_lem s _) ∙ e))
  to_2 (suc (suc zero)) e = absurd (false≢true (sym (of_tone (ltb word 256)) ∙ e))
  to_2 (suc (suc (suc kind))) e = omega arith

module _ (s : Score) (step len kind word gain : ℕ) where
  -- THE THEOREM: a kind above 2 is refused with 8
  pub kind_refused : 2 < kind → note_refusal s (note_of step len kind word gain) ≡ Err Kind
  unfolding note_refusal note_of
  kind_refused h = rw (ne_eqb kind 0 (λ e. omega arith), ne_eqb kind 1 (λ e. omega arith), ne_eqb kind 2 (λ e. omega arith))

  -- and nothing else is
  pub kind_only : note_refusal s (note_of step len kind word gain) ≡ Err Kind → 2 < kind
  kind_only e = to_2 s step len word gain kind (ap eight e)
