-- Demand 3 of each station: the calls of a list that name a station are a list of calls on it alone, so that every theorem about such lists holds of it. Assumes nothing.
use Prim.Native.Nat.{ℕ, ◌+◌, ◌<◌}
use mathlib.Core.Path.{◌≡◌, refl, sym, ap, ◌∙◌, subst}
use mathlib.Core.Logic.{◌≢◌}
use mathlib.Core.List.{List, [], ◌∷◌, ◌++◌, map}
use mathlib.Core.Bool.{Bool, true, false, cond}
use native.Mathlib.Omega.{arith}
use native.Mathlib.Nat.{add_assoc}
use borrow.Author.Tests.{eqb-true, eqb-false, eq-eqb, ne_eqb}
use lib.Dec.{eqb}
use lib.ListN.{get_or}
use lib.Ieee.{Float, nan}
use Rattle.rng.specs.SplitMix64.{state_after}
use Rattle.dsl.specs.declared.note.SeqNote.{SeqNote}
use Rattle.dsl.specs.declared.note.Decoded.TheVariants.{Note}
use Rattle.outcome.specs.Answer.{number_of, refused, accepted, reported}
use Rattle.outcome.specs.declared.answer.Refusal.{Refusal}
use Rattle.std.specs.Prelude.{Err}
use Rattle.score.specs.Score.{note_in, note_count, skips, score_draws}
use Rattle.score.specs.Refusals.{refusal_at}
use Rattle.note.specs.NoteCall.{NoteEvent, note_handed_in, Voiced}
use Rattle.score_contract.specs.ScoreCall.{Event, score_in}
use Rattle.score_contract.specs.SessionCall.{SessionEvent, SessionScored, on_station}
use Rattle.score_contract.proofs.Stations.{nowhere, on_station_lem, others_stay, eight_stays, seeds_stay}
use Rattle.session.specs.Opened.{seed_in, count_in, station_at, station_in, Eight}
use Rattle.session.specs.declared.session.Session.{Session}
use Rattle.session.specs.declared.station.Station.{Station}
use Rattle.tally.specs.Tally.{tally, tallied, total}
use Rattle.tally.specs.Claim.{Run, none, call, seen_in, reported_in}
use Rattle.tally.specs.Alone.{alone_handed}
use Rattle.tally.specs.Lists.{state_of, PlayedAlone, MadeAlone}
use Rattle.tally.specs.Setting.{Resets, NoiseKept}
use Rattle.tally.specs.Stations.{Runs, no_call, next_call, score_on, seen_on, own_calls, draw_at, StationsAgree, GeneratorsAgree, LeftOut, nothing, leaves, keeps, AsAlone}
use Rattle.tally.specs.Sum.{frame_after}
use Rattle.tally.proofs.AllCalls.{all_calls}
use Rattle.tally.proofs.Lists.{in_list, reports_own, frame_in_list, note_in_list, note_made_in_list, refused_in_list}
use Rattle.tally.proofs.Setting.{no_knob_moves_noise}

-- ---- the calls that name a station
module _ (k : ℕ) (lt : k < 8) where
  -- one call more in front
  step : {a : Session} → Eight a → (e : SessionEvent) → SessionScored a e → {calls : List Event} {b : Station} → Run (station_in e.answer.session k) calls b → (t : Bool)
      → eqb e.station k ≡ t → Run (station_in a k) (cond t (on_station e ∷ calls) calls) b
  step {a} eight e scored {calls} {b} rest true is =
      let same : e.station ≡ k = eqb-true _ _ is in
      let named : e.station < 8 = rw same lt in
      let later = subst (λ (j : ℕ). Run (station_in e.answer.session j) calls b) (sym same) rest in
      subst (λ (j : ℕ). Run (station_in a j) (on_station e ∷ calls) b) same (call (on_station e) (on_station_lem a e eight named scored) later)
  step {a} eight e scored {calls} {b} rest false is =
      let other : k ≢ e.station = λ same. eqb-false _ _ is (sym same) in
      subst (λ (s : Station). Run s calls b) (others_stay a e k other scored) rest

  -- THE THEOREM: they are a list of calls on the station alone
  pub own_run : {a b : Session} {es : List SessionEvent} → Eight a → Runs a es b → Run (station_in a k) (own_calls k es) (station_in b k)
  unfolding own_calls
  own_run eight no_call = none
  own_run eight (next_call e scored rest) = step eight e scored (own_run (eight_stays _ e eight scored) rest) (eqb e.station k) refl

-- ---- a call in a list
split : (k : ℕ) (es : List SessionEvent) (e : SessionEvent) (es' : List SessionEvent) → e.station ≡ k
    → own_calls k (es ++ e ∷ es') ≡ own_calls k es ++ on_station e ∷ own_calls k es'
unfolding own_calls
split k [] e es' is = rw (eq-eqb e.station k is) refl
split k (x ∷ xs) e es' is = by (eqb x.station k) (split k xs e es' is)
  where
    by : (t : Bool) → own_calls k (xs ++ e ∷ es') ≡ own_calls k xs ++ on_station e ∷ own_calls k es'
        → cond t (on_station x ∷ own_calls k (xs ++ e ∷ es')) (own_calls k (xs ++ e ∷ es')) ≡ cond t (on_station x ∷ own_calls k xs) (own_calls k xs) ++ on_station e ∷ own_calls k es'
    by true rest = ap (λ (l : List Event). on_station x ∷ l) rest
    by false rest = rest

-- the list up to a call, and the session that the call found
record Made (a : Session) (es : List SessionEvent) (e : SessionEvent) : Type 0 where
  pub at : Session
  pub scored : SessionScored at e
  pub upto : Runs a (es ++ e ∷ []) e.answer.session

made : {a b : Session} (es : List SessionEvent) (e : SessionEvent) (es' : List SessionEvent) → Runs a (es ++ e ∷ es') b → Made a es e
made [] e es' (next_call _ scored rest) = record { at = _; scored = scored; upto = next_call e scored no_call }
made (x ∷ xs) e es' (next_call _ scored rest) = let m = made xs e es' rest in record { at = m.at; scored = m.scored; upto = next_call x scored m.upto }

reported_end : (es : List Event) (e : Event) → reported_in (es ++ e ∷ []) ≡ reported_in es + reported (seen_in e)
unfolding total
reported_end [] e = omega arith
reported_end (x ∷ xs) e = omega (arith, reported_end xs e)

module _ (a : Session) (eight : Eight a) (es : List SessionEvent) (e : SessionEvent) (es' : List SessionEvent) (b : Session) (runs : Runs a (es ++ e ∷ es') b) (lt : e.station < 8) where
  abbrev k : ℕ
  k = e.station

  abbrev s : ℕ
  s = seed_in a k

  abbrev c : ℕ
  c = count_in a k

  run : Run (station_at s c) (own_calls k es ++ on_station e ∷ own_calls k es') (station_in b k)
  run = subst (λ (l : List Event). Run (station_in a k) l (station_in b k)) (split k es e es' refl) (own_run k lt eight runs)

  -- the draw at which the call begins: its station's count, and what the calls before it that name the station reported
  abbrev start : ℕ
  start = draw_at a es k

  -- THE THEOREM: what was seen of a call is its own station's tally's result of it at that draw
  pub in_station : seen_on e ≡ tallied s start (score_on e)
  in_station = in_list s c (own_calls k es) (on_station e) (own_calls k es') (station_in b k) run

  -- THE THEOREM: the call leaves its station at that draw and its own draws
  pub leaves_station : station_in e.answer.session k ≡ station_at s (start + reported (seen_on e))
  unfolding own_calls
  leaves_station =
      let upto = own_run k lt eight (made es e es' runs).upto in
      let agrees = all_calls s c (own_calls k (es ++ e ∷ [])) (station_in e.answer.session k) upto in
      let own : reported_in (own_calls k (es ++ e ∷ [])) ≡ reported_in (own_calls k es) + reported (seen_on e) = ap reported_in (split k es e [] refl) ∙ reported_end (own_calls k es) (on_station e) in
      agrees.station ∙ ap (station_at s) (agrees.end ∙ ap (λ (t : ℕ). c + t) (sym agrees.reports ∙ own) ∙ sym (add_assoc c _ _))

  -- THE THEOREM: s + (c + T) × 9E3779B97F4A7C15: the generator that the playing handed back stands at that draw of the station's seed
  pub generator_in_station : e.answer.rng.0 ≡ state_after s (start + reported (seen_on e))
  generator_in_station = (made es e es' runs).scored.generator ∙ ap (λ (x : Station). x.rng.0) leaves_station

  -- THE THEOREM: a refused call reports 0, and its number is the first refusal that applies
  pub refused_in_station : (why : Refusal) → refusal_at (score_on e) start ≡ Err why → seen_on e ≡ refused (number_of why)
  refused_in_station = refused_in_list s c (own_calls k es) (on_station e) (own_calls k es') (station_in b k) run

  module _ (D : ℕ) (frames : List Float) (is : seen_on e ≡ accepted D frames) where
    -- THE THEOREM: an accepted call reports the draws of its own sounded notes
    pub reports_own_in_station : D ≡ score_draws (score_on e)
    reports_own_in_station = reports_own s c (own_calls k es) (on_station e) (own_calls k es') (station_in b k) run D frames is

    -- THE THEOREM: frame i of its output
    pub frame_in_station : (i : ℕ) → i < (score_on e).n → get_or e.out i nan ≡ frame_after (score_on e) s start i (note_count (score_on e))
    frame_in_station = frame_in_list s c (own_calls k es) (on_station e) (own_calls k es') (station_in b k) run D frames is

    -- THE THEOREM: a sounded note of it
    pub note_in_station : (j : ℕ) → j < note_count (score_on e) → (m : SeqNote) → note_in (score_on e) j ≡ Note m → skips (score_on e) m ≡ false → PlayedAlone s start (score_on e) j m
    note_in_station = note_in_list s c (own_calls k es) (on_station e) (own_calls k es') (station_in b k) run D frames is

    -- THE THEOREM: and whoever makes the note call that plays it alone
    pub note_made_in_station : (j : ℕ) → j < note_count (score_on e) → (m : SeqNote) → note_in (score_on e) j ≡ Note m → skips (score_on e) m ≡ false
        → (n : NoteEvent) → Voiced n → note_handed_in n ≡ alone_handed (score_on e) m → n.rng.0 ≡ state_of s start (score_on e) j m → MadeAlone s start (score_on e) j m n
    note_made_in_station = note_made_in_list s c (own_calls k es) (on_station e) (own_calls k es') (station_in b k) run D frames is

-- ---- all stations
seeds_kept : {a b : Session} {es : List SessionEvent} → Runs a es b → b.seeds ≡ a.seeds
seeds_kept no_call = refl
seeds_kept (next_call e scored rest) = seeds_kept rest ∙ seeds_stay _ e scored

none_named : {a b : Session} (es : List SessionEvent) (e : SessionEvent) (es' : List SessionEvent) → Runs a (es ++ e ∷ es') b → 7 < e.station → seen_on e ≡ refused 33
none_named [] e es' (next_call _ scored rest) past = scored.answer ∙ nowhere _ e past
none_named (x ∷ xs) e es' (next_call _ scored rest) past = none_named xs e es' rest past

-- THE THEOREM: any list of score calls over any stations, from any session
pub all_stations : (a : Session) → Eight a → (es : List SessionEvent) (b : Session) → Runs a es b → StationsAgree a es b
all_stations a eight es b runs = record {
  stations = λ k lt. all_calls (seed_in a k) (count_in a k) (own_calls k es) (station_in b k) (own_run k lt eight runs);
  seeds = seeds_kept runs;
  nowhere = λ es₁ e es₂ is past. none_named es₁ e es₂ (subst (λ (l : List SessionEvent). Runs a l b) is runs) past;
}

-- THE THEOREM: and the generator that each of them handed back
pub all_generators : (a : Session) → Eight a → (es : List SessionEvent) (b : Session) → Runs a es b → GeneratorsAgree a es
all_generators a eight es b runs = record {
  each = λ es₁ e es₂ is lt. generator_in_station a eight es₁ e es₂ b (subst (λ (l : List SessionEvent). Runs a l b) is runs) lt;
}

-- ---- a station alone
module _ (k : ℕ) where
  left_calls : {es es' : List SessionEvent} → LeftOut k es es' → map score_in (own_calls k es) ≡ map score_in (own_calls k es')
  unfolding own_calls
  left_calls nothing = refl
  left_calls (leaves e other rest) = rw (ne_eqb e.station k other) (left_calls rest)
  left_calls (keeps e e' is is' same rest) = rw (eq-eqb e.station k is, eq-eqb e'.station k is') (λ j. same j ∷ left_calls rest j)

  left_seen : {es es' : List SessionEvent} → LeftOut k es es' → map seen_in (own_calls k es') ≡ map seen_on es'
  unfolding own_calls
  left_seen nothing = refl
  left_seen (leaves e other rest) = left_seen rest
  left_seen (keeps e e' is is' same rest) = rw (eq-eqb e'.station k is') (λ j. seen_on e' ∷ left_seen rest j)

-- THE THEOREM: a list of calls, and the list with the other stations' calls left out, from sessions that have the station alike: the station ends alike, and its calls answer alike
pub as_if_alone : (k : ℕ) → k < 8 → (a a' : Session) → Eight a → Eight a' → seed_in a k ≡ seed_in a' k → count_in a k ≡ count_in a' k → (es es' : List SessionEvent) → LeftOut k es es'
    → (b b' : Session) → Runs a es b → Runs a' es' b' → AsAlone k es es' b b'
as_if_alone k lt a a' eight eight' seed count es es' left b b' runs runs' =
    let t = (all_stations a eight es b runs).stations k lt in
    let t' = (all_stations a' eight' es' b' runs').stations k lt in
    let same : tally (seed_in a k) (count_in a k) (map score_in (own_calls k es)) ≡ tally (seed_in a' k) (count_in a' k) (map score_in (own_calls k es'))
    = λ j. tally (seed j) (count j) (left_calls k left j) in
    record {
      end = t.station ∙ (λ j. station_at (seed j) (same j).end) ∙ sym t'.station;
      answers = t.results ∙ (λ j. (same j).results) ∙ sym t'.results ∙ left_seen k left;
    }

-- THE THEOREM: of two lists of calls over any stations whose calls on station k differ in nothing but knobs, duty, gains and envelopes, all sized, station k keeps its noise, and ends
-- alike; the calls on the other stations may be any
pub no_knob_moves_station : (k : ℕ) → k < 8 → (a : Session) → Eight a → (es es' : List SessionEvent) (b b' : Session) → Runs a es b → Runs a es' b'
    → Resets (map score_in (own_calls k es)) (map score_in (own_calls k es')) → NoiseKept (seed_in a k) (count_in a k) (own_calls k es) (own_calls k es') (station_in b k) (station_in b' k)
no_knob_moves_station k lt a eight es es' b b' runs runs' resets =
    no_knob_moves_noise (seed_in a k) (count_in a k) (own_calls k es) (own_calls k es') (station_in b k) (station_in b' k) (own_run k lt eight runs) (own_run k lt eight runs') resets
