-- The number that a call answers is that of the first refusal of its list that applies. Assumes nothing.
use Prim.Native.Nat.{ℕ, zero, suc, ◌+◌, ◌-◌, ◌^◌, ◌<◌}
use mathlib.Core.Path.{◌≡◌, refl, sym, ap, ◌∙◌}
use mathlib.Core.List.{List, [], ◌∷◌, ◌++◌, map, flatten}
use mathlib.Core.Bool.{Bool, true, false, cond}
use native.Mathlib.Omega.{arith}
use borrow.Author.Tests.{lt-ltb, le-ltb, ltb-true, ltb-false, ne_eqb}
use lib.Dec.{ltb}
use lib.ListN.{get_or}
use lib.Ieee.{nan}
use Rattle.laws.specs.Listed.{listed_from, listed}
use Rattle.quarter_tone.specs.Lookup.{tone_of}
use Rattle.dsl.specs.Sized.{pitch_sized}
use Rattle.dsl.specs.Note.{note_of}
use Rattle.draws.specs.Draws.{draws_of}
use Rattle.voice.specs.Voice.{note_frames}
use Rattle.outcome.specs.Answer.{number_of, Result, accepted, unless, seen}
use Rattle.outcome.specs.First.{Test, first_of, or_else, first_refusal}
use Rattle.outcome.specs.declared.answer.Refusal.{Refusal}
use Rattle.outcome.specs.Outcome.{Verdict}
use Rattle.std.specs.Prelude.{Ok, Err}
use Rattle.note_verdict.specs.NoteRefusals.{NoteHanded, note_call_tests, note_call_refusal}
use Rattle.note.specs.NoteCall.{NoteEvent, note_handed_in, note_result_of, Voiced}
use Rattle.score.specs.Score.{Score, note_at, note_in, note_count, notes_in, score_draws}
use Rattle.score.specs.Refusals.{call_tests, note_refusal, refusal, refusal_at}
use Rattle.score.proofs.Tuned.{tone_sized}
use Rattle.score_contract.specs.Frames.{score_frames}
use Rattle.score_contract.specs.ScoreCall.{result_of}
use Rattle.score_contract.specs.SessionCall.{SessionEvent, SessionScored, result_at}
use Rattle.session.specs.Opened.{count_in, station_in}
use Rattle.session.specs.declared.session.Session.{Session}
use Rattle.tally.specs.Stations.{score_on, seen_on}
use Rattle.tally.specs.Refusals.{Numbered, ◌⇒#◌, first_refused, note_refusals, refusals_at, score_refusals, note_call_refusals}

-- ---- a list of tests by the names of the refusals, and by their numbers
abbrev numbered : Test → Numbered
numbered t = record { holds = t.holds; number = number_of t.refusal }

unless_cond : (b : Bool) (why : Refusal) (v : Verdict) (r : Result) → unless (cond b (Err why) v) r ≡ cond b (unless (Err why) r) (unless v r)
unless_cond true why v r = refl
unless_cond false why v r = refl

by_number : (ts : List Test) (r : Result) → unless (first_of ts) r ≡ first_refused (map numbered ts) r
unfolding first_of first_refused
by_number [] r = refl
by_number (t ∷ ts) r = unless_cond t.holds t.refusal (first_of ts) r ∙ ap (cond t.holds (unless (Err t.refusal) r)) (by_number ts r)

unless_or : (v next : Verdict) (r : Result) → unless (or_else v next) r ≡ unless v (unless next r)
unless_or (Ok _) next r = refl
unless_or (Err why) next r = refl

cond_append : (t : Numbered) (ts us : List Numbered) (r : Result) → first_refused (ts ++ us) r ≡ first_refused ts (first_refused us r)
    → first_refused (t ∷ (ts ++ us)) r ≡ first_refused (t ∷ ts) (first_refused us r)
unfolding first_refused
cond_append t ts us r e = rw e

append : (ts us : List Numbered) (r : Result) → first_refused (ts ++ us) r ≡ first_refused ts (first_refused us r)
unfolding first_refused
append [] us r = refl
append (t ∷ ts) us r = cond_append t ts us r (append ts us r)

-- ---- one note, by its words
module _ (s : Score) (step len word gain : ℕ) (r : Result) where
  abbrev Same : ℕ → Type 0
  Same kind = unless (note_refusal s (note_of step len kind word gain)) r ≡ first_refused (note_refusals s step len kind word gain) r

  of_number : Same 0
  unfolding note_refusal note_of note_refusals first_refused pitch_sized
  of_number = by_number _ r

  of_curve : Same 1
  unfolding note_refusal note_of note_refusals first_refused pitch_sized
  of_curve = by_number _ r

  -- a q of the table, whose number is sized, and one above it
  of_tone : Same 2
  unfolding note_refusal note_of tone_of note_refusals first_refused pitch_sized
  of_tone = by (ltb word 256) refl
    where
      by : (b : Bool) → ltb word 256 ≡ b → Same 2
      by true e = let lt = ltb-true word 256 e in rw (e, le-ltb 255 word (omega arith)) (by_number _ r ∙ rw (tone_sized word lt))
      by false e = let le = ltb-false word 256 e in rw (e, lt-ltb 255 word (omega arith)) (by_number _ r)

  of_no_kind : (kind : ℕ) → 2 < kind → Same kind
  unfolding note_refusal note_of note_refusals first_refused
  of_no_kind kind h = rw (lt-ltb 2 kind h, ne_eqb kind 0 (λ e. omega arith), ne_eqb kind 1 (λ e. omega arith), ne_eqb kind 2 (λ e. omega arith))

  each_kind : (kind : ℕ) → Same kind
  each_kind zero = of_number
  each_kind (suc zero) = of_curve
  each_kind (suc (suc zero)) = of_tone
  each_kind (suc (suc (suc kind))) = of_no_kind (suc (suc (suc kind))) (omega arith)

-- ---- note by note
module _ (s : Score) where
  of_note_lem : (k : ℕ) (r : Result) → unless (note_refusal s (note_in s k)) r ≡ first_refused (refusals_at s k) r
  unfolding note_at refusals_at
  of_note_lem k r = each_kind s _ _ _ _ r _

  of_notes : (m k : ℕ) (r : Result) → unless (first_refusal (map (note_refusal s) (listed_from (note_in s) m k))) r ≡ first_refused (flatten (listed_from (refusals_at s) m k)) r
  unfolding listed_from first_refusal flatten first_refused
  of_notes zero k r = refl
  of_notes (suc m) k r =
      unless_or (note_refusal s (note_in s k)) (first_refusal (map (note_refusal s) (listed_from (note_in s) m (suc k)))) r ∙ of_note_lem k _
      ∙ ap (first_refused (refusals_at s k)) (of_notes m (suc k) r) ∙ sym (append (refusals_at s k) (flatten (listed_from (refusals_at s) m (suc k))) r)

-- ---- a score call
module _ (a : Session) (k : ℕ) (s : Score) where
  -- an accepted call on station k: its draws and frames
  abbrev pub accepting : Result
  accepting = accepted (score_draws s) (score_frames s (station_in a k).rng.0 0)

  abbrev last : List Numbered
  last = (ltb (2 ^ 64 - 1) (count_in a k + score_draws s) ⇒# 22) ∷ []

  in_order : (tests notes draws : Verdict) (r : Result) → unless (or_else (or_else tests notes) draws) r ≡ unless tests (unless notes (unless draws r))
  in_order tests notes draws r = unless_or (or_else tests notes) draws r ∙ unless_or tests notes (unless draws r)

  from_notes : unless (first_refusal (map (note_refusal s) (notes_in s))) (first_refused last accepting) ≡ first_refused (flatten (listed (refusals_at s) (note_count s)) ++ last) accepting
  from_notes = of_notes s (note_count s) 0 (first_refused last accepting) ∙ sym (append (flatten (listed (refusals_at s) (note_count s))) last accepting)

  on_station_lem : unless (refusal_at s (count_in a k)) accepting ≡ first_refused (map numbered (call_tests s)) (first_refused (flatten (listed (refusals_at s) (note_count s)) ++ last) accepting)
  unfolding refusal_at refusal
  on_station_lem =
      in_order (first_of (call_tests s)) (first_refusal (map (note_refusal s) (notes_in s))) _ accepting
      ∙ ap (λ (r : Result). unless (first_of (call_tests s)) (unless (first_refusal (map (note_refusal s) (notes_in s))) r)) (by_number _ accepting)
      ∙ ap (unless (first_of (call_tests s))) from_notes
      ∙ by_number (call_tests s) _

  -- THE THEOREM: a score call is refused with the number of the first refusal of the list that applies, 33 first and 22 last, and accepted where none does
  pub score_refusals_lem : result_at a k s ≡ first_refused (score_refusals k (count_in a k) s) accepting
  unfolding result_at result_of score_refusals first_refused
  score_refusals_lem = ap (cond (ltb 7 k) _) on_station_lem

-- so it is of every call that was made
pub answers_first : (a : Session) (e : SessionEvent) → SessionScored a e
    → seen_on e ≡ first_refused (score_refusals e.station (count_in a e.station) (score_on e)) (accepting a e.station (score_on e))
answers_first a e scored = scored.answer ∙ score_refusals_lem a e.station (score_on e)

-- ---- a note call
module _ (h : NoteHanded) (g : ℕ) where
  -- an accepted call from the generator's state g: its draws and samples
  abbrev pub note_accepting : Result
  note_accepting =
      accepted (draws_of h.voice.wave h.voice.kit h.rate (get_or h.pitch 0 nan) h.n)
      (note_frames h.rate h.voice h.gain (λ i. get_or h.pitch i nan) (λ i. get_or h.duty i nan) g h.n)

  -- THE THEOREM: likewise, of a note call
  pub note_call_refusals_lem : note_result_of h g ≡ first_refused (note_call_refusals h) note_accepting
  unfolding note_result_of note_call_refusal note_call_refusals
  note_call_refusals_lem = by_number (note_call_tests h) note_accepting

pub note_answers_first : (e : NoteEvent) → Voiced e
    → seen e.answer.outcome e.out ≡ first_refused (note_call_refusals (note_handed_in e)) (note_accepting (note_handed_in e) e.rng.0)
note_answers_first e voiced = voiced.answer ∙ note_call_refusals_lem (note_handed_in e) e.rng.0
