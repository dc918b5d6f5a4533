-- Demand 3 about a call, a note and a frame of any list of score calls: `Run (station_at s c) (es ++ e ∷ es') b`. Assumes nothing.
use Prim.Native.Nat.{ℕ, suc, ◌+◌, ◌<◌}
use mathlib.Core.Path.{◌≡◌, refl, sym, ap, ◌∙◌}
use mathlib.Core.List.{List, [], ◌∷◌, ◌++◌}
use mathlib.Core.Bool.{false}
use native.Mathlib.Omega.{arith}
use native.Mathlib.Nat.{add_assoc}
use lib.ListN.{get_or}
use lib.Ieee.{Float, nan}
use Rattle.laws.proofs.If.{if_false}
use Rattle.rng.specs.SplitMix64.{state_after}
use Rattle.rng.specs.declared.Rng.{Rng}
use Rattle.rng.proofs.States.{state_add}
use Rattle.dsl.specs.declared.note.SeqNote.{SeqNote}
use Rattle.dsl.specs.declared.note.Decoded.{Decoded}
use Rattle.dsl.specs.declared.note.Decoded.TheVariants.{Note}
use Rattle.outcome.specs.Answer.{number_of, refused, accepted, unless, seen, out_after, reported, frames_in}
use Rattle.outcome.specs.Outcome.{Outcome}
use Rattle.std.specs.Prelude.{Ok, Err}
use Rattle.outcome.specs.Outcome.{Verdict}
use Rattle.session.specs.Opened.{station_at}
use Rattle.session.specs.declared.station.Station.{Station}
use Rattle.note.specs.NoteCall.{NoteEvent, note_handed_in, note_result_of, note_result_in, rng_after, Voiced}
use Rattle.score.specs.Score.{Score, note_in, note_count, skips, draws_in, note_draws, draws_before, score_draws}
use Rattle.score.specs.Refusals.{refusal, refusal_at}
use Rattle.score.proofs.Accepted.{accepted_score, fine_in}
use Rattle.score_contract.specs.Frames.{samples_in, mix_note, mixed_in, with_note, frames_after}
use Rattle.score_contract.specs.ScoreCall.{Event, Scored, score_in, result_in}
use Rattle.tally.specs.Alone.{alone_handed, alone_of}
use Rattle.tally.specs.Tally.{Taken, taken_after, all_taken, tallied}
use Rattle.tally.specs.Claim.{Run, none, call, seen_in, reported_in}
use Rattle.tally.specs.Lists.{state_of, PlayedAlone, MadeAlone}
use Rattle.tally.specs.Sum.{frame_after}
use Rattle.tally.proofs.Alone.{alone, call_fine}
use Rattle.tally.proofs.Taking.{all_taken_lem}
use Rattle.tally.proofs.AllCalls.{all_calls, not_refused, taken_whole, one_call}
use Rattle.tally.proofs.Sum.{frame_is}

-- ---- a call in a list
-- the station that a call of a list finds
record Found (a : Station) (es : List Event) (e : Event) : Type 0 where
  pub at : Station
  pub before : Run a es at
  pub scored : Scored at e

found : {a b : Station} (es : List Event) (e : Event) (es' : List Event) → Run a (es ++ e ∷ es') b → Found a es e
found [] e es' (call _ scored rest) = record { at = _; before = none; scored = scored }
found (x ∷ xs) e es' (call _ scored rest) = let f = found xs e es' rest in record { at = f.at; before = call x scored f.before; scored = f.scored }

-- ---- a note call that was made
-- handed a sounded note of a score, from the state g: it is accepted, its output has the note's samples, and its generator is e draws on
module _ (sc : Score) (m : SeqNote) (g : ℕ) (own : alone_of sc m g ≡ accepted (draws_in sc m) (samples_in sc m g)) where
  pub made_alone : (n : NoteEvent) → Voiced n → note_handed_in n ≡ alone_handed sc m → n.rng.0 ≡ g
      → (seen n.answer.outcome n.out ≡ accepted (draws_in sc m) (samples_in sc m g)) × ((n.out ≡ samples_in sc m g) × (n.answer.rng.0 ≡ state_after g (draws_in sc m)))
  unfolding alone_of
  made_alone n voiced handed from =
      let q : note_result_in n ≡ accepted (draws_in sc m) (samples_in sc m g) = (λ j. note_result_of (handed j) (from j)) ∙ own in (
        voiced.answer ∙ q,
        (
          voiced.frames ∙ ap (out_after n.out₀) q,
          ap (λ (x : Rng). x.0) (voiced.rng ∙ ap (rng_after n.rng) q) ∙ ap (λ (x : ℕ). state_after x (draws_in sc m)) from,
        ),
      )

module _ (s c : ℕ) (es : List Event) (e : Event) (es' : List Event) (b : Station) (run : Run (station_at s c) (es ++ e ∷ es') b) where
  -- the draw at which the call begins: c, and what the calls before it reported
  abbrev start : ℕ
  start = c + reported_in es

  -- THE THEOREM: what was seen of a call is the tally's result of it at that draw
  pub in_list : seen_in e ≡ tallied s start (score_in e)
  in_list =
      let f = found es e es' run in
      let agrees = all_calls s c es f.at f.before in
      let at = agrees.station ∙ ap (station_at s) (agrees.end ∙ ap (λ (t : ℕ). c + t) (sym agrees.reports)) in
      f.scored.answer ∙ ap (λ (x : Station). result_in x e) at ∙ one_call s start e

  module _ (D : ℕ) (frames : List Float) (is : seen_in e ≡ accepted D frames) where
    by_verdict : (v : Verdict) (T : ℕ) (fs : List Float) → accepted D frames ≡ unless v (accepted T fs) → (v ≡ Ok tt) × ((D ≡ T) × (frames ≡ fs))
    by_verdict (Ok _) T fs q = (refl, (cc, cc))
    by_verdict (Err r) T fs q = (cc, (cc, cc))

    whole : (refusal_at (score_in e) start ≡ Ok tt) × ((D ≡ score_draws (score_in e)) × (frames ≡ (all_taken s (score_in e) start).frames))
    unfolding tallied
    whole = by_verdict (refusal_at (score_in e) start) (score_draws (score_in e)) _ (sym is ∙ in_list)

    fine : refusal (score_in e) ≡ Ok tt
    fine = not_refused s start (score_in e) whole.0

    -- THE THEOREM: an accepted call reports the draws of its own sounded notes
    pub reports_own : D ≡ score_draws (score_in e)
    reports_own = whole.1.0

    out_is : (o : Outcome) (out : List Float) → seen o out ≡ accepted D frames → out ≡ frames
    out_is (Ok t) out q = cc
    out_is (Err r) out q = cc

    -- THE THEOREM: frame i of its output
    pub frame_in_list : (i : ℕ) → i < (score_in e).n → get_or e.out i nan ≡ frame_after (score_in e) s start i (note_count (score_in e))
    frame_in_list i h =
        let all = ap (λ (t : Taken). t.frames) (taken_whole s start (score_in e) whole.0) in
        ap (λ (l : List Float). get_or l i nan) (out_is e.answer.outcome e.out is ∙ whole.1.1 ∙ all) ∙ frame_is (score_in e) fine s start i h

    -- THE THEOREM: a sounded note of it
    pub note_in_list : (k : ℕ) → k < note_count (score_in e) → (m : SeqNote) → note_in (score_in e) k ≡ Note m → skips (score_in e) m ≡ false → PlayedAlone s start (score_in e) k m
    unfolding draws_before note_draws frames_after with_note mixed_in
    note_in_list k lt m n heard =
        let sc = score_in e in
        let each = alone sc fine in
        let own = each k m (state_of s start sc k m) lt n heard in
        let at = all_taken_lem s sc each start in
        let next : draws_before sc (suc k) ≡ draws_before sc k + draws_in sc m = ap (λ (x : Decoded). draws_before sc k + note_draws sc x) n in
        let before = ap (λ (t : Taken). t.frames) (at k (omega arith)) in
        let mixed = ap (λ (x : Decoded). with_note sc x (state_after s (start + draws_before sc k)) (frames_after sc s start k)) n in
        record {
          accepted = call_fine sc (accepted_score sc fine).fit m (fine_in sc fine k lt m n) heard;
          draws = ap reported own;
          begins = ap (λ (t : Taken). t.x) (at k (omega arith));
          samples =
              ap (λ (t : Taken). t.frames) (at (suc k) (omega arith)) ∙ mixed ∙ sym (if_false _ heard refl)
              ∙ (λ j. mix_note sc m (frames_in (sym own j)) (sym before j));
          leaves = state_add s (start + draws_before sc k) (draws_in sc m) ∙ ap (state_after s) (add_assoc start _ _ ∙ ap (λ (x : ℕ). start + x) (sym next));
        }

    -- THE THEOREM: whoever makes the note call that plays it alone, from the state at its own draw: its frames and draws are the note's in the score
    pub note_made_in_list : (k : ℕ) → k < note_count (score_in e) → (m : SeqNote) → note_in (score_in e) k ≡ Note m → skips (score_in e) m ≡ false
        → (n : NoteEvent) → Voiced n → note_handed_in n ≡ alone_handed (score_in e) m → n.rng.0 ≡ state_of s start (score_in e) k m → MadeAlone s start (score_in e) k m n
    note_made_in_list k lt m is heard n voiced handed from =
        let sc = score_in e in
        let own = alone sc fine k m (state_of s start sc k m) lt is heard in
        let played = note_in_list k lt m is heard in
        let call = made_alone sc m (state_of s start sc k m) own n voiced handed from in
        let gained = ap (λ (l : List Float). mix_note sc m l (taken_after s sc start k).frames) (ap frames_in own ∙ sym call.1.0) in
        record { answer = call.0; samples = played.samples ∙ gained; leaves = call.1.1 ∙ played.leaves }

  -- THE THEOREM: a refused call reports 0, and its number is the first refusal that applies
  pub refused_in_list : (why : _) → refusal_at (score_in e) start ≡ Err why → seen_in e ≡ refused (number_of why)
  unfolding tallied
  refused_in_list why r = in_list ∙ rw r
