-- The ways in which a note call ends. Assumes nothing.
use Prim.Native.Nat.{ℕ, ◌≤◌, ◌<◌}
use mathlib.Core.Path.{◌≡◌, sym, ap, ◌∙◌}
use mathlib.Core.List.{List}
use native.Mathlib.Omega.{arith}
use native.Mathlib.Nat.{zero-add}
use borrow.Author.Tests.{ltb-false, eqb-false, eqb-true, not-false}
use lib.ListN.{length, drop, get_or}
use lib.Ieee.{Float, nan}
use Rattle.rng.specs.SplitMix64.{state_after}
use Rattle.rng.specs.declared.Rng.{Rng}
use Rattle.dsl.specs.Domain.{Rate, Frames}
use Rattle.dsl.specs.Pitch.{value_at, reading, pitch_at}
use Rattle.dsl.specs.declared.pitch.Pitch.TheVariants.{Curve}
use Rattle.dsl.proofs.Hop.{each_frame}
use Rattle.draws.specs.Draws.{draws_of}
use Rattle.voice.specs.Voice.{note_frames}
use Rattle.outcome.specs.Answer.{Result, accepted, unless, seen, out_after, free}
use Rattle.note_verdict.specs.NoteRefusals.{NoteHanded, note_call_tests, note_call_refusal}
use Rattle.note.specs.NoteCall.{NoteEvent, Voiced, note_handed_in, note_result_of, note_result_in, rng_after}
use Rattle.note.specs.declared.answer.NoteAnswer.{NoteAnswer}
use Rattle.std.specs.Prelude.{Ok, Err}
use Rattle.outcome.specs.declared.answer.Refusal.{Refusal}
use Rattle.outcome.specs.Outcome.{Verdict}
use Rattle.outcome.proofs.First.{none_holds, inside_least, inside_most}

-- what an accepted call's arguments are
pub record NoteAccepted (h : NoteHanded) : Type 0 where
  pub rated : Rate h.rate
  pub most : Frames h.n
  pub stringed : 9600 ≤ h.string
  pub some : 0 < length h.pitch
  pub duties : length h.duty ≡ length h.pitch
  pub frames : h.n ≡ length h.pitch

pub accepted_note_facts : (h : NoteHanded) → note_call_refusal h ≡ Ok tt → NoteAccepted h
unfolding note_call_refusal
accepted_note_facts h e =
    let (rate, (n, (_, (string, (_, (_, (_, (empty, (duties, (frames, _)))))))))) = none_holds (note_call_tests h) e in
    let z = eqb-false (length h.pitch) 0 empty in
    record {
      rated = record { least = inside_least _ _ _ rate; most = inside_most _ _ _ rate };
      most = record { most = ltb-false _ _ n };
      stringed = ltb-false _ _ string;
      some = omega arith;
      duties = eqb-true _ _ (not-false _ duties);
      frames = eqb-true _ _ (not-false _ frames);
    }

-- a slice is a curve from its first value on
curve0 : (l : List Float) → pitch_at (reading (Curve 0) 1) l ≡ (λ i. get_or l i nan)
unfolding value_at
curve0 l = λ j i. (each_frame (Curve 0) l i ∙ ap (λ (k : ℕ). get_or l k nan) (zero-add i)) j

module _ (e : NoteEvent) where
  abbrev at : Verdict
  at = note_call_refusal (note_handed_in e)

  abbrev full : Result
  full = accepted (draws_of e.voice.wave e.voice.kit e.rate (get_or e.pitch 0 nan) (length e.out₀))
      (note_frames e.rate e.voice e.gain (λ i. get_or e.pitch i nan) (λ i. get_or e.duty i nan) e.rng.0 (length e.out₀))

  comes_to : {v : Verdict} → v ≡ at → note_result_in e ≡ unless v full
  unfolding note_result_of
  comes_to n = ap (λ (v : Verdict). unless v full) (sym n)

  pub refused_note : {r : Refusal} → Err r ≡ at → e.answer ≡ record { rng = e.rng; outcome = Err r } → e.out ≡ e.out₀ → e.string ≡ e.string₀ → Voiced e
  refused_note n ans o s =
      let q = comes_to n in record {
        answer = ap (λ (x : NoteAnswer). seen x.outcome e.out) ans ∙ sym q;
        rng = ap (λ (x : NoteAnswer). x.rng) ans ∙ ap (rng_after e.rng) (sym q);
        frames = o ∙ ap (out_after e.out₀) (sym q);
        string = ap (drop (free 9600 (note_result_in e))) s;
      }

  pub accepted_note : Ok tt ≡ at → (g : Rng) (t : ℕ) → t ≡ draws_of e.voice.wave e.voice.kit e.rate (get_or e.pitch 0 nan) (length e.out₀)
      → g.0 ≡ state_after e.rng.0 (draws_of e.voice.wave e.voice.kit e.rate (pitch_at (reading (Curve 0) 1) e.pitch 0) (length e.out₀))
      → e.answer ≡ record { rng = g; outcome = Ok t }
      → e.out ≡ note_frames e.rate e.voice e.gain (pitch_at (reading (Curve 0) 1) e.pitch) (pitch_at (reading (Curve 0) 1) e.duty) e.rng.0 (length e.out₀)
      → drop 9600 e.string ≡ drop 9600 e.string₀ → Voiced e
  accepted_note n g t et eg ans o s =
      let q = comes_to n in
      let o' = o ∙ (λ j. note_frames e.rate e.voice e.gain (curve0 e.pitch j) (curve0 e.duty j) e.rng.0 (length e.out₀)) in
      let eg' = eg ∙ ap (λ (f : ℕ → Float). state_after e.rng.0 (draws_of e.voice.wave e.voice.kit e.rate (f 0) (length e.out₀))) (curve0 e.pitch) in record {
        answer = ap (λ (x : NoteAnswer). seen x.outcome e.out) ans ∙ (λ j. accepted (et j) (o' j)) ∙ sym q;
        rng = ap (λ (x : NoteAnswer). x.rng) ans ∙ (λ j. record { 0 = eg' j }) ∙ ap (rng_after e.rng) (sym q);
        frames = o' ∙ ap (out_after e.out₀) (sym q);
        string = rw q s;
      }
