-- Demand 3: every list of score calls agrees with the tally. The contract of a call speaks of the generator as the station holds it, the tally of the seed and a count of
-- draws; that these are the same is `state_add`. Assumes nothing.
use Prim.Native.Nat.{ℕ, zero, suc, ◌+◌}
use mathlib.Core.Path.{◌≡◌, refl, sym, ap, ◌∙◌}
use mathlib.Core.List.{List, [], ◌∷◌, map}
use native.Mathlib.Omega.{arith}
use native.Mathlib.Nat.{zero-add, add-zero, le_refl}
use lib.Ieee.{Float}
use Rattle.rng.specs.SplitMix64.{state_after}
use Rattle.rng.proofs.States.{state_add}
use Rattle.outcome.specs.Answer.{Result, refused, accepted, unless, reported}
use Rattle.outcome.specs.Outcome.{Verdict}
use Rattle.std.specs.Prelude.{Ok, Err}
use Rattle.outcome.proofs.First.{or_fine}
use Rattle.score.specs.Score.{Score, note_in, note_count, draws_before, score_draws}
use Rattle.score_contract.specs.Frames.{with_note, frames_after, score_frames}
use Rattle.score.specs.Refusals.{refusal, refusal_at}
use Rattle.score_contract.specs.ScoreCall.{Event, score_in, station_after, result_of, result_in}
use Rattle.session.specs.Opened.{station_at}
use Rattle.session.specs.declared.station.Station.{Station}
use Rattle.score.proofs.Notes.{draws_all}
use Rattle.tally.specs.Tally.{Taken, all_taken, tallied, new_draw, tally, total, drawn_by}
use Rattle.tally.specs.Claim.{Run, none, call, seen_in, Agrees}
use Rattle.tally.proofs.Alone.{alone}
use Rattle.tally.proofs.Taking.{all_taken_lem}

-- ---- one accepted call
-- from the station's state, or from the seed and the station's count
frames_on : (sc : Score) (seed d k : ℕ) → frames_after sc (state_after seed d) 0 k ≡ frames_after sc seed d k
unfolding frames_after
frames_on sc seed d zero = refl
frames_on sc seed d (suc k) =
    let x = draws_before sc k in
    let on : state_after (state_after seed d) (0 + x) ≡ state_after seed (d + x) = ap (state_after (state_after seed d)) (zero-add x) ∙ state_add seed d x in
    λ j. with_note sc (note_in sc k) (on j) (frames_on sc seed d k j)

module _ (seed d : ℕ) (s : Score) where
  pub not_refused : refusal_at s d ≡ Ok tt → refusal s ≡ Ok tt
  unfolding refusal_at
  not_refused e = (or_fine (refusal s) _ e).0

  -- a call that is not refused is taken as a whole
  pub taken_whole : refusal_at s d ≡ Ok tt → all_taken seed s d ≡ record { x = d + score_draws s; frames = score_frames s seed d }
  unfolding score_frames
  taken_whole e =
      all_taken_lem seed s (alone s (not_refused e)) d (note_count s) (le_refl (note_count s))
      ∙ (λ j. record { x = d + sym (draws_all s) j; frames = frames_after s seed d (note_count s) })

-- ---- one call
unless_same : (v : Verdict) (r r' : Result) → (v ≡ Ok tt → r ≡ r') → unless v r ≡ unless v r'
unless_same (Ok _) r r' e = e refl
unless_same (Err why) r r' e = refl

new_draw_lem : (v : Verdict) (D : ℕ) (frames : List Float) (d x : ℕ) → (v ≡ Ok tt → x ≡ d + D) → new_draw (unless v (accepted D frames)) d x ≡ d + reported (unless v (accepted D frames))
new_draw_lem (Ok _) D frames d x e = e refl
new_draw_lem (Err why) D frames d x e = sym (add-zero d)

-- what the contract says on the station at draw d is what the tally says
pub one_call : (seed d : ℕ) (e : Event) → result_in (station_at seed d) e ≡ tallied seed d (score_in e)
unfolding result_of tallied score_frames
one_call seed d e =
    let s = score_in e in
    unless_same (refusal_at s d) _ _
    (λ fine. ap (accepted (score_draws s)) (frames_on s seed d (note_count s) ∙ sym (ap (λ (t : Taken). t.frames) (taken_whole seed d s fine))))

-- "The last x, which is d + D, becomes the new d."
pub one_draw : (seed d : ℕ) (s : Score) → new_draw (tallied seed d s) d (all_taken seed s d).x ≡ d + reported (tallied seed d s)
unfolding tallied
one_draw seed d s = new_draw_lem (refusal_at s d) (score_draws s) _ d _ (λ fine. ap (λ (t : Taken). t.x) (taken_whole seed d s fine))

station_on : (seed d : ℕ) (r : Result) → station_after (station_at seed d) r ≡ station_at seed (d + reported r)
station_on seed d (refused number) = ap (station_at seed) (sym (add-zero d))
station_on seed d (accepted draws frames) = λ j. record { rng = record { 0 = state_add seed d draws j }; draw = d + draws }

-- the end is d and what the calls draw
pub end_is : (seed d : ℕ) (ss : List Score) → (tally seed d ss).end ≡ d + drawn_by seed d ss
unfolding tally total
end_is seed d [] = sym (add-zero d)
end_is seed d (s ∷ ss) = omega (arith, end_is seed (new_draw (tallied seed d s) d (all_taken seed s d).x) ss, one_draw seed d s)

-- ---- a list of calls, from draw d on
module _ (seed : ℕ) where
  pub record Tallied (d : ℕ) (es : List Event) (b : Station) : Type 0 where
    pub results : map seen_in es ≡ (tally seed d (map score_in es)).results
    pub station : b ≡ station_at seed (tally seed d (map score_in es)).end

  from : (d : ℕ) {es : List Event} {a b : Station} → a ≡ station_at seed d → Run a es b → Tallied d es b
  unfolding tally
  from d p none = record { results = refl; station = p }
  from d p (call e scored rest) =
      let r = tallied seed d (score_in e) in
      let same : result_in _ e ≡ r = ap (λ (x : Station). result_in x e) p ∙ one_call seed d e in
      let here : seen_in e ≡ r = scored.answer ∙ same in
      let new = one_draw seed d (score_in e) in
      let on = scored.station ∙ ap (station_after _) same ∙ ap (λ (x : Station). station_after x r) p ∙ station_on seed d r ∙ ap (station_at seed) (sym new) in
      let later = from (new_draw r d (all_taken seed (score_in e) d).x) on rest in
      record { results = λ j. here j ∷ later.results j; station = later.station }

-- THE THEOREM: a station opened with the seed s at draw c, and any list of score calls on it.
pub all_calls : (s c : ℕ) (es : List Event) (b : Station) → Run (station_at s c) es b → Agrees s c es b
all_calls s c es b run =
    let t = from s c refl run in
    record { results = t.results; station = t.station; end = end_is s c (map score_in es); reports = ap total t.results }
