-- A planning call is accepted exactly when the score call with buffers long enough is, and reports what that call reports. Assumes nothing.
use Prim.Native.Nat.{ℕ, ◌≤◌}
use mathlib.Core.Path.{◌≡◌, refl, sym, ap, ◌∙◌}
use mathlib.Core.List.{List}
use mathlib.Core.Bool.{Bool, true, false, cond}
use lib.Dec.{ltb}
use lib.ListN.{length}
use lib.Ieee.{Float}
use Rattle.outcome.specs.Answer.{number_of, refused, accepted, unless, seen, out_after}
use Rattle.outcome.specs.Outcome.{Outcome}
use Rattle.std.specs.Prelude.{Ok, Err}
use Rattle.outcome.specs.declared.answer.Refusal.TheVariants.{NoStation}
use Rattle.outcome.specs.Outcome.{Verdict}
use Rattle.score.specs.Score.{Score, score_draws}
use Rattle.score.specs.Refusals.{refusal_at}
use Rattle.score_contract.specs.Frames.{score_frames}
use Rattle.score_contract.specs.ScoreCall.{score_in, result_of}
use Rattle.score_contract.specs.SessionCall.{SessionEvent, SessionScored, on_station, result_at, result_on}
use Rattle.session.specs.Opened.{station_in}
use Rattle.session.specs.declared.session.Session.{Session}
use Rattle.plan.specs.Plan.{unlent, outcome_of, planned_at, plan_on, Planned}
use Rattle.plan.specs.declared.call.Plan.{Plan}
use Rattle.plan.proofs.Refused.{unlent_plan, refused_alike_at}
use Rattle.plan.proofs.Totals.{totals_equal}

seen_of : (v : Verdict) (draws : ℕ) (frames : List Float) → seen (outcome_of v draws) frames ≡ unless v (accepted draws frames)
seen_of (Ok _) draws frames = refl
seen_of (Err r) draws frames = refl

module _ (a : Session) (k : ℕ) (s : Score) (room : s.n ≤ s.room) (string : 9600 ≤ s.string) where
  -- the frames of the score call
  abbrev pub frames_of : List Float
  frames_of = score_frames s (station_in a k).rng.0 0

  named : seen (planned_at s (station_in a k).draw) frames_of ≡ result_of s (station_in a k).rng.0 (station_in a k).draw
  unfolding planned_at result_of
  named =
      let d = (station_in a k).draw in
      ap (λ (o : Outcome). seen o frames_of) (λ j. outcome_of (refused_alike_at s room string d j) (totals_equal s j)) ∙ seen_of (refusal_at s d) (score_draws s) frames_of

  -- THE THEOREM: with the score call's frames added, what the planning call comes to is what the score call comes to: the same refusal's number, or the same draws
  pub plan_as_score : seen (plan_on a k s) frames_of ≡ result_at a k s
  unfolding plan_on result_at
  plan_as_score = by (ltb 7 k)
    where
      by : (b : Bool)
          → seen (cond b (Err NoStation) (planned_at s (station_in a k).draw)) frames_of ≡ cond b (refused (number_of NoStation)) (result_of s (station_in a k).rng.0 (station_in a k).draw)
      by true = refl
      by false = named

-- an outcome that comes to a result is seen with the frames that the result leaves
seen_left : (o : Outcome) (frames out₀ : List Float) → seen o (out_after out₀ (seen o frames)) ≡ seen o frames
seen_left (Ok d) frames out₀ = refl
seen_left (Err r) frames out₀ = refl

-- THE THEOREM, of two calls that were made on one session with the same input: they answer the same
pub answers_alike : (a : Session) (e : SessionEvent) (p : Plan) → SessionScored a e → Planned a e.station (unlent e.seq e.notes e.lane (length e.out₀)) p
    → length e.out₀ ≤ length e.buffer₀ → 9600 ≤ length e.string₀ → seen p.outcome e.out ≡ seen e.answer.outcome e.out
answers_alike a e p scored planned room string =
    let s = score_in (on_station e) in
    let k = e.station in
    let frames = frames_of a k s room string in
    let is : p.outcome ≡ plan_on a k s = planned.outcome ∙ unlent_plan a k s in
    let same : seen p.outcome frames ≡ result_on a e = ap (λ (o : Outcome). seen o frames) is ∙ plan_as_score a k s room string in
    ap (seen p.outcome) (scored.frames ∙ ap (out_after e.out₀) (sym same)) ∙ seen_left p.outcome frames e.out₀ ∙ same ∙ sym scored.answer
