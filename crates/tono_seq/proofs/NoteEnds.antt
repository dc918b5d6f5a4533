-- The ways in which `seq_note_signal` ends. Assumes nothing.
use Prim.Native.Nat.{ℕ}
use mathlib.Core.Path.{◌≡◌, refl, sym, ap, ◌∙◌}
use mathlib.Core.List.{[]}
use Rattle.rng.specs.declared.Rng.{Rng}
use Rattle.dsl.specs.declared.knobs.SeqVoice.{SeqVoice}
use Rattle.outcome.specs.Answer.{Result, refused, accepted, seen, number_of_result, reported}
use Rattle.note.specs.NoteCall.{NoteEvent, Voiced, note_result_of, note_result_in, rng_after}
use Rattle.note.specs.declared.answer.NoteAnswer.{NoteAnswer}
use Rattle.raw_knobs.specs.Knobs.{voice_at}
use Rattle.raw_call.specs.Called.{Called, none, made, state_after_result, state_after_call, Places, Holds}
use Rattle.tono_seq.specs.Note.{NoteExport, NoteExported, handed_with, note_called_with, note_called}
use Rattle.std.specs.Prelude.{None, Option, Some}
use Rattle.raw_call.proofs.Ends.{Returned, made_holds}

-- the note call that was made, with the voice v and the generator g; a is its answer
abbrev call_of : NoteExport → SeqVoice → Rng → NoteAnswer → NoteEvent
call_of e v g a = record {
  rng = g;
  rate = e.rate;
  voice = v;
  gain = e.gain;
  pitch = e.pitch;
  duty = e.duty;
  out₀ = e.places.out₀;
  string₀ = e.places.string₀;
  answer = a;
  out = e.places.out;
  string = e.places.string;
}

state_after_lem : (g : Rng) (x : Result) → (rng_after g x).0 ≡ state_after_result g.0 x
state_after_lem g (refused number) = refl
state_after_lem g (accepted draws frames) = refl

module _ (e : NoteExport) where
  abbrev p : Places
  p = e.places

  exported : (x : Called) → note_called e ≡ x → Holds x p → e.state ≡ state_after_call e.state₀ x → NoteExported e
  exported x q h s = record { places = rw q h; state = rw q s }

  pub not_called : None ≡ voice_at e.wave e.style e.knobs e.bars → Holds none p → e.state ≡ e.state₀ → NoteExported e
  not_called v = exported none (ap (λ (x : Option SeqVoice). note_called_with x e) (sym v))

  module _ (v : SeqVoice) (g : Rng) (a : NoteAnswer) (voice : Some v ≡ voice_at e.wave e.style e.knobs e.bars) (state : g.0 ≡ e.state₀) (call : Voiced (call_of e v g a)) where
    abbrev result : Result
    result = note_result_in (call_of e v g a)

    called : note_called e ≡ made result
    called = ap (λ (x : Option SeqVoice). note_called_with x e) (sym voice) ∙ ap (λ (s : ℕ). made (note_result_of (handed_with v e) s)) (sym state)

    returned : Returned p result a.outcome
    returned = record { answer = call.answer; frames = call.frames; string = call.string }

    pub call_holds : p.number ≡ number_of_result (seen a.outcome []) → p.draws ≡ reported (seen a.outcome []) → e.state ≡ a.rng.0 → NoteExported e
    call_holds n d s =
        let after = s ∙ ap (λ (x : Rng). x.0) call.rng ∙ state_after_lem g result ∙ ap (λ (x : ℕ). state_after_result x result) state in
        exported (made result) called (made_holds returned n d) after
