-- The ways in which `render_seq` ends. Assumes nothing.
use Rattle.std.specs.Prelude.{Some, None}
use Prim.Native.Nat.{ℕ, ◌<◌}
use mathlib.Core.Path.{◌≡◌, refl, sym, ap, ◌∙◌}
use mathlib.Core.List.{[]}
use mathlib.Core.Bool.{Bool, true, false, cond}
use native.Mathlib.Omega.{arith}
use borrow.Author.Tests.{ltb-true, ltb-false}
use lib.Dec.{ltb}
use lib.ListN.{length, drop, set}
use Rattle.outcome.specs.Answer.{Result, seen, number_of_result, reported}
use Rattle.dsl.specs.declared.knobs.Adsr.{Adsr}
use Rattle.dsl.specs.declared.knobs.SeqVoice.{SeqVoice}
use Rattle.raw_knobs.specs.Knobs.{voice_at, env_at}
use Rattle.score.specs.declared.seq.Seq.{Seq}
use Rattle.score_contract.specs.SessionCall.{SessionEvent, SessionScored, result_on, session_after}
use Rattle.score_contract.proofs.Stations.{nowhere, set_after}
use Rattle.session.specs.Opened.{count_in, Eight}
use Rattle.session.specs.declared.session.Session.{Session}
use Rattle.session.specs.declared.session.Answer.{Answer}
use Rattle.raw_call.specs.Called.{Called, none, made, free_after_call, Places, Holds}
use Rattle.raw_call.specs.Raw.{Parts, session_in, seq_with, parts_in}
use Rattle.tono_seq.specs.Score.{ScoreExport, counts_after_call, ScoreExported, score_called_on, score_called}
use Rattle.raw_call.specs.Stations.{placed}
use Rattle.raw_call.proofs.Ends.{Returned, made_holds}
use Rattle.raw_call.proofs.Whole.{call_eights}

-- the score call that was made, with the `Seq` q; b is its answer
abbrev call_of : ScoreExport → Seq → Answer → SessionEvent
call_of e q b = record {
  station = e.station;
  seq = q;
  notes = e.notes;
  lane = e.lane;
  out₀ = e.places.out₀;
  buffer₀ = e.buffer₀;
  string₀ = e.places.string₀;
  answer = b;
  out = e.places.out;
  buffer = e.buffer;
  string = e.places.string;
}

-- the count that the session after a call has, put to its place, makes the counts of that session
placed_after : (a : Session) → Eight a → (k : ℕ) (r : Result) → (7 < k → session_after a k r ≡ a) → placed a.draws k (session_after a k r).draws ≡ (session_after a k r).draws
placed_after a eight k r nowhere = by (ltb 7 k) refl
  where
    by : (t : Bool) → ltb 7 k ≡ t → cond t a.draws (set a.draws k (count_in (session_after a k r) k)) ≡ (session_after a k r).draws
    by true past = ap (λ (b : Session). b.draws) (sym (nowhere (ltb-true 7 k past)))
    by false named = let le = ltb-false 7 k named in set_after a eight k (omega arith) r

module _ (e : ScoreExport) where
  abbrev p : Places
  p = e.places

  -- what the counts and the note buffer hold
  abbrev Others : Called → Type 0
  Others x =
      (e.counts ≡ counts_after_call (session_in e.raw) e.station x) × (drop (free_after_call (length p.out₀) x) e.buffer ≡ drop (free_after_call (length p.out₀) x) e.buffer₀)

  exported : (x : Called) → score_called e ≡ x → Holds x p → Others x → ScoreExported e
  exported x q h o = record { places = rw q h; counts = rw q o.0; buffer = rw q o.1 }

  pub not_called : None ≡ parts_in e.raw → Holds none p → Others none → ScoreExported e
  not_called u = exported none (ap (λ (x : Parts). score_called_on x e) (sym u))

  module _ (v : SeqVoice) (m : Adsr) (b : Answer) (is : Some (v, m) ≡ parts_in e.raw) (call : SessionScored (session_in e.raw) (call_of e (seq_with v m e.raw) b)) where
    abbrev a : Session
    a = session_in e.raw

    abbrev result : Result
    result = result_on a (call_of e (seq_with v m e.raw) b)

    returned : Returned p result b.outcome
    returned = record { answer = call.answer; frames = call.frames; string = call.string }

    eights : Eight a
    eights =
        let voice = voice_at e.raw.wave e.raw.style e.raw.knobs e.raw.bars in
        let (seeds, counts) = call_eights (length a.seeds) (length a.draws) (length e.raw.points) voice (env_at e.raw.env) v m is in
        record { seeds = seeds; counts = counts }

    -- a call that names no station leaves the session
    nowhere_stays : 7 < e.station → session_after a e.station result ≡ a
    nowhere_stays past = ap (session_after a e.station) (nowhere a (call_of e (seq_with v m e.raw) b) past)

    pub call_holds : p.number ≡ number_of_result (seen b.outcome []) → p.draws ≡ reported (seen b.outcome [])
        → e.counts ≡ placed e.raw.counts e.station b.session.draws → ScoreExported e
    call_holds n d c =
        let after = ap (λ (s : Session). placed e.raw.counts e.station s.draws) call.session ∙ placed_after a eights e.station result nowhere_stays in
        exported (made result) (ap (λ (x : Parts). score_called_on x e) (sym is)) (made_holds returned n d) (c ∙ after, call.buffer)
