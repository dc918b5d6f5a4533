-- Demand 3 of lists of `tono_render_seq`: each is a list of score calls on the session of the host's seeds and counts, with the calls left out that stand for none. Assumes nothing.
use Prim.Native.Nat.{ℕ, ◌+◌, ◌<◌}
use mathlib.Core.Path.{◌≡◌, refl, sym, ap, ◌∙◌, subst}
use mathlib.Core.List.{List, [], ◌∷◌, ◌++◌, map}
use mathlib.Core.Bool.{Bool, true, false, cond}
use borrow.Author.Tests.{lt-ltb}
use lib.Dec.{eqb, ltb}
use lib.ListN.{length, drop, get_or}
use lib.Ieee.{Float}
use Rattle.rng.specs.SplitMix64.{state_after}
use Rattle.dsl.specs.declared.knobs.Adsr.{Adsr}
use Rattle.dsl.specs.declared.knobs.SeqVoice.{SeqVoice}
use Rattle.outcome.specs.Answer.{Result, refused, accepted, unless, seen, number_of, number_of_result, reported, out_after}
use Rattle.outcome.specs.Outcome.{Outcome}
use Rattle.std.specs.Prelude.{Ok, Err, Some, None}
use Rattle.outcome.specs.declared.answer.Refusal.{Refusal}
use Rattle.outcome.specs.declared.answer.Refusal.TheVariants.{NoStation, Rate, Frames, Tempo, StepsPerBeat, Tone, TempoPoints, TempoOrder, Groove, Knobs, Hop, Words}
use Rattle.outcome.specs.declared.answer.Refusal.TheVariants.{Kind, Steps, Size, Lane, Reach, NoPitch, Lengths, NoteBuffer, StringBuffer, Draws}
use Rattle.outcome.specs.Outcome.{Verdict}
use Rattle.session.specs.Opened.{seed_in, count_in, station_in}
use Rattle.session.specs.declared.session.Session.{Session}
use Rattle.session.specs.declared.station.Station.{Station}
use Rattle.score.specs.Score.{Score, score_draws}
use Rattle.score.specs.Refusals.{refusal_at}
use Rattle.score.specs.declared.seq.Seq.{Seq}
use Rattle.score_contract.specs.Frames.{score_frames}
use Rattle.score_contract.specs.ScoreCall.{Event, score_in, result_of}
use Rattle.score_contract.specs.SessionCall.{SessionEvent, SessionScored, on_station, result_at, session_after}
use Rattle.raw_call.specs.Called.{made, free_after_call, Holds}
use Rattle.raw_call.specs.Raw.{Parts, session_by, session_in, seq_with, parts_in}
use Rattle.tono_seq.specs.Score.{ScoreExport, score_with, score_called_on, counts_after_call, ScoreExported}
use Rattle.tally.specs.Claim.{seen_in}
use Rattle.tally.specs.Stations.{Runs, no_call, next_call, own_calls}
use Rattle.tally.specs.Tally.{tally, total, drawn_by}
use Rattle.tally.proofs.Stations.{all_stations}
use Rattle.tally_exported.specs.Exports.{RunsExported, no_export, next_export, seen_of, Made, score_made, seen_made, made_on, own_made, ExportsAgree}

-- ---- what a host sees
-- no refusal has the number 0
some_number : (r : Refusal) → eqb (number_of r) 0 ≡ false
some_number NoStation = refl
some_number Rate = refl
some_number Frames = refl
some_number Tempo = refl
some_number StepsPerBeat = refl
some_number Tone = refl
some_number TempoPoints = refl
some_number TempoOrder = refl
some_number Groove = refl
some_number Knobs = refl
some_number Hop = refl
some_number Words = refl
some_number Kind = refl
some_number Steps = refl
some_number Size = refl
some_number Lane = refl
some_number Reach = refl
some_number NoPitch = refl
some_number Lengths = refl
some_number NoteBuffer = refl
some_number StringBuffer = refl
some_number Draws = refl

told : (o : Outcome) (out : List Float) (number draws : ℕ) → number ≡ number_of_result (seen o out) → draws ≡ reported (seen o out)
    → cond (eqb number 0) (accepted draws out) (refused number) ≡ seen o out
told (Ok D) out number draws n d = λ j. cond (eqb (n j) 0) (accepted (d j) out) (refused (n j))
told (Err r) out number draws n d = (λ j. cond (eqb (n j) 0) (accepted draws out) (refused (n j))) ∙ ap (λ (t : Bool). cond t (accepted draws out) (refused (number_of r))) (some_number r)

-- an answer that is seen as a result
record SeenAs (r : Result) (out : List Float) : Type 0 where
  pub outcome : Outcome
  pub is : seen outcome out ≡ r

by_verdict : (v : Verdict) (D : ℕ) (fs out₀ out : List Float) → out ≡ out_after out₀ (unless v (accepted D fs)) → SeenAs (unless v (accepted D fs)) out
by_verdict (Ok _) D fs out₀ out e = record { outcome = Ok D; is = ap (accepted D) e }
by_verdict (Err why) D fs out₀ out e = record { outcome = Err why; is = refl }

by_station : (t : Bool) (v : Verdict) (D : ℕ) (fs out₀ out : List Float) → out ≡ out_after out₀ (cond t (refused (number_of NoStation)) (unless v (accepted D fs)))
    → SeenAs (cond t (refused (number_of NoStation)) (unless v (accepted D fs))) out
by_station true v D fs out₀ out e = record { outcome = Err NoStation; is = refl }
by_station false v D fs out₀ out e = by_verdict v D fs out₀ out e

seen_as : (a : Session) (k : ℕ) (s : Score) (out₀ out : List Float) → out ≡ out_after out₀ (result_at a k s) → SeenAs (result_at a k s) out
unfolding result_at result_of
seen_as a k s out₀ out e =
    by_station (ltb 7 k) (refusal_at s (station_in a k).draw) (score_draws s) (score_frames s (station_in a k).rng.0 0) out₀ out e

-- ---- one call
-- the score call with the `Seq` q, the answer o and the generator that the session after it gives the station
abbrev call_of : ScoreExport → Seq → Outcome → SessionEvent
call_of e q o =
    let b = session_by e.raw.seeds e.counts in
    record {
      station = e.station;
      seq = q;
      notes = e.notes;
      lane = e.lane;
      out₀ = e.places.out₀;
      buffer₀ = e.buffer₀;
      string₀ = e.places.string₀;
      answer = record { session = b; rng = record { 0 = state_after (seed_in b e.station) (count_in b e.station) }; outcome = o };
      out = e.places.out;
      buffer = e.buffer;
      string = e.places.string;
    }

-- what it leaves of the session
left_session : (a : Session) (k : ℕ) (r : Result) (counts : List ℕ) → counts ≡ (session_after a k r).draws → session_by a.seeds counts ≡ session_after a k r
left_session a k (refused number) counts e = λ j. record { seeds = a.seeds; draws = e j }
left_session a k (accepted draws frames) counts e = λ j. record { seeds = a.seeds; draws = e j }

module _ (e : ScoreExport) (ex : ScoreExported e) where
  module _ (v : SeqVoice) (m : Adsr) (is : parts_in e.raw ≡ Some (v, m)) where
    abbrev a : Session
    a = session_in e.raw

    abbrev s : Score
    s = score_with (seq_with v m e.raw) e

    abbrev r : Result
    r = result_at a e.station s

    holds : Holds (made r) e.places
    holds = subst (λ (p : Parts). Holds (score_called_on p e) e.places) is ex.places

    answered : SeenAs r e.places.out
    answered = seen_as a e.station s e.places.out₀ e.places.out holds.frames

    abbrev event : SessionEvent
    event = call_of e (seq_with v m e.raw) answered.outcome

    scored : SessionScored a event
    scored = record {
      answer = answered.is;
      session = left_session a e.station r e.counts (subst (λ (p : Parts). e.counts ≡ counts_after_call a e.station (score_called_on p e)) is ex.counts);
      generator = refl;
      frames = holds.frames;
      buffer = subst (λ (p : Parts). let free = free_after_call (length e.places.out₀) (score_called_on p e) in drop free e.buffer ≡ drop free e.buffer₀) is ex.buffer;
      string = holds.string;
    }

    told_is : seen_of e ≡ r
    told_is =
        told answered.outcome e.places.out e.places.number e.places.draws (holds.number ∙ ap number_of_result (sym answered.is))
        (holds.draws ∙ ap reported (sym answered.is)) ∙ answered.is

    told_nowhere : 7 < e.station → seen_of e ≡ refused 33
    unfolding result_at
    told_nowhere past =
        told_is ∙ ap (λ (t : Bool). cond t (refused (number_of NoStation)) (result_of s (station_in a e.station).rng.0 (station_in a e.station).draw)) (lt-ltb 7 e.station past)

-- ---- lists
-- the score calls that a list of exported calls made
record Translated (seeds c : List ℕ) (es : List ScoreExport) (d : List ℕ) : Type 0 where
  pub calls : List SessionEvent
  pub runs : Runs (session_by seeds c) calls (session_by seeds d)
  pub scores : (k : ℕ) → map score_in (own_calls k calls) ≡ map score_made (own_made k es)
  pub seens : (k : ℕ) → map seen_in (own_calls k calls) ≡ map seen_made (own_made k es)

more_scores : (t : Bool) (x : Event) (xs : List Event) (y : Made) (ys : List Made) → score_in x ≡ y.score → map score_in xs ≡ map score_made ys
    → map score_in (cond t (x ∷ xs) xs) ≡ map score_made (cond t (y ∷ ys) ys)
more_scores true x xs y ys e es = λ j. e j ∷ es j
more_scores false x xs y ys e es = es

more_seens : (t : Bool) (x : Event) (xs : List Event) (y : Made) (ys : List Made) → seen_in x ≡ y.seen → map seen_in xs ≡ map seen_made ys
    → map seen_in (cond t (x ∷ xs) xs) ≡ map seen_made (cond t (y ∷ ys) ys)
more_seens true x xs y ys e es = λ j. e j ∷ es j
more_seens false x xs y ys e es = es

cond_same : (t : Bool) (ys : List Made) → ys ≡ cond t ys ys
cond_same true ys = refl
cond_same false ys = refl

-- one call more in front, by what its numbers stand for
step : {seeds c d : List ℕ} {es : List ScoreExport} (e : ScoreExport) → e.raw.seeds ≡ seeds → e.raw.counts ≡ c → ScoreExported e → Translated seeds e.counts es d → (p : Parts)
    → parts_in e.raw ≡ p → Translated seeds c (e ∷ es) d
unfolding own_calls own_made
step {seeds} {c} {d} {es} e se ce ex t (Some (v, m)) is =
    let ev = event e ex v m is in
    let rest = subst (λ (l : List ℕ). Runs (session_by l e.counts) t.calls (session_by seeds d)) (sym se) t.runs in
    let own : (k : ℕ) → own_made k (e ∷ es) ≡ cond (eqb e.station k) (made_on (Some (v, m)) e (own_made k es)) (own_made k es)
    = λ k. ap (λ (p : Parts). cond (eqb e.station k) (made_on p e (own_made k es)) (own_made k es)) is in
    record {
      calls = ev ∷ t.calls;
      runs = subst (λ (x : Session). Runs x (ev ∷ t.calls) (session_by seeds d)) (λ j. session_by (se j) (ce j)) (next_call ev (scored e ex v m is) rest);
      scores = λ k. more_scores (eqb e.station k) (on_station ev) (own_calls k t.calls) _ (own_made k es) refl (t.scores k) ∙ ap (map score_made) (sym (own k));
      seens = λ k.
          more_seens (eqb e.station k) (on_station ev) (own_calls k t.calls) _ (own_made k es) ((answered e ex v m is).is ∙ sym (told_is e ex v m is)) (t.seens k)
          ∙ ap (map seen_made) (sym (own k));
    }
step {seeds} {c} {d} {es} e se ce ex t None is =
    let stayed : e.counts ≡ e.raw.counts = subst (λ (p : Parts). e.counts ≡ counts_after_call (session_in e.raw) e.station (score_called_on p e)) is ex.counts in
    let own : (k : ℕ) → own_made k (e ∷ es) ≡ own_made k es
    = λ k. ap (λ (p : Parts). cond (eqb e.station k) (made_on p e (own_made k es)) (own_made k es)) is ∙ sym (cond_same (eqb e.station k) (own_made k es)) in
    record {
      calls = t.calls;
      runs = subst (λ (l : List ℕ). Runs (session_by seeds l) t.calls (session_by seeds d)) (stayed ∙ ce) t.runs;
      scores = λ k. t.scores k ∙ ap (map score_made) (sym (own k));
      seens = λ k. t.seens k ∙ ap (map seen_made) (sym (own k));
    }

translated : {seeds c d : List ℕ} {es : List ScoreExport} → RunsExported seeds c es d → Translated seeds c es d
unfolding own_calls own_made
translated no_export = record { calls = []; runs = no_call; scores = λ k. refl; seens = λ k. refl }
translated (next_export e se ce ex rest) = step e se ce ex (translated rest) (parts_in e.raw) refl

none_named : {seeds c d : List ℕ} (es : List ScoreExport) (e : ScoreExport) (es' : List ScoreExport) → RunsExported seeds c (es ++ e ∷ es') d → 7 < e.station
    → (v : SeqVoice) (m : Adsr) → parts_in e.raw ≡ Some (v, m) → seen_of e ≡ refused 33
none_named [] e es' (next_export _ se ce ex rest) past v m is = told_nowhere e ex v m is past
none_named (x ∷ xs) e es' (next_export _ se ce ex rest) past v m is = none_named xs e es' rest past v m is

-- THE THEOREM: any list of `tono_render_seq` over any stations, from any eight seeds and eight counts
pub all_exported : (seeds c : List ℕ) → length seeds ≡ 8 → length c ≡ 8 → (es : List ScoreExport) (d : List ℕ) → RunsExported seeds c es d → ExportsAgree seeds c es d
all_exported seeds c eight eight' es d runs =
    let t = translated runs in
    let agrees = all_stations (session_by seeds c) (record { seeds = eight; counts = eight' }) t.calls (session_by seeds d) t.runs in
    record {
      results = λ k lt. sym (t.seens k) ∙ (agrees.stations k lt).results ∙ ap (λ (ss : List Score). (tally (get_or seeds k 0) (get_or c k 0) ss).results) (t.scores k);
      ends = λ k lt.
          ap (λ (x : Station). x.draw) (agrees.stations k lt).station ∙ (agrees.stations k lt).end ∙
          ap (λ (ss : List Score). get_or c k 0 + drawn_by (get_or seeds k 0) (get_or c k 0) ss) (t.scores k);
      reports = λ k lt. sym (ap total (t.seens k)) ∙ (agrees.stations k lt).reports ∙ ap (λ (ss : List Score). drawn_by (get_or seeds k 0) (get_or c k 0) ss) (t.scores k);
      nowhere = λ es₁ e es₂ is past v m parts. none_named es₁ e es₂ (subst (λ (l : List ScoreExport). RunsExported seeds c l d) is runs) past v m parts;
    }
