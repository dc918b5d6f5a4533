-- The refusals of a note call, in 01's order. `number_of` (outcome/specs/Answer) has their numbers.
use Rattle.std.specs.Prelude.{ℕ, List, [], ◌∷◌, ◌++◌, not, length, ltb, eqb, Float}
use Rattle.dsl.specs.Sized.{sized_of, all_sized}
use Rattle.dsl.specs.Knobs.{knob_list}
use Rattle.dsl.specs.declared.knobs.SeqVoice.{SeqVoice}
use Rattle.outcome.specs.First.{Test, ◌⇒◌, first_of}
use Rattle.outcome.specs.Domain.{domain_tests}
use Rattle.outcome.specs.declared.answer.Refusal.TheVariants.{Knobs, StringBuffer, Size, NoPitch, Lengths}
use Rattle.outcome.specs.Outcome.{Verdict}

-- What a note call is handed, as values: n and `string` are the lengths of the output and of the string buffer.
pub record NoteHanded : Type 0 where
  pub rate : ℕ
  pub voice : SeqVoice
  pub gain : Float
  pub pitch : List Float
  pub duty : List Float
  pub n : ℕ
  pub string : ℕ

-- "in the order 1, 2, 6, 21, 10, 13, 14: 10 gain, or a pitch or duty value, not sized; 13 pitch empty; 14 pitch, duty and output differ in length; 2 judges the output's
-- length"; of 6, "in a note call: a knob only"
abbrev pub note_call_tests : NoteHanded → List Test
note_call_tests h =
    domain_tests h.rate h.n
    ++ (not (all_sized (knob_list h.voice)) ⇒ Knobs)
    ∷ (ltb h.string 9600 ⇒ StringBuffer)
    ∷ (not (sized_of h.gain) ⇒ Size)
    ∷ (not (all_sized h.pitch) ⇒ Size)
    ∷ (not (all_sized h.duty) ⇒ Size)
    ∷ (eqb (length h.pitch) 0 ⇒ NoPitch)
    ∷ (not (eqb (length h.duty) (length h.pitch)) ⇒ Lengths)
    ∷ (not (eqb h.n (length h.pitch)) ⇒ Lengths)
    ∷ []

unfoldable pub note_call_refusal : NoteHanded → Verdict
note_call_refusal h = first_of (note_call_tests h)
