-- The ways in which a planning call ends. Assumes nothing.
use Prim.Native.Nat.{ℕ, ◌-◌, ◌^◌, ◌≤◌, ◌<◌}
use mathlib.Core.Path.{◌≡◌, refl, sym, ap, ◌∙◌}
use mathlib.Core.List.{List}
use native.Mathlib.Omega.{arith}
use borrow.Author.Tests.{lt-ltb, le-ltb}
use lib.Ieee.{Float}
use Rattle.outcome.specs.Outcome.{Outcome}
use Rattle.std.specs.Prelude.{Option, Ok, Err, None, Some, ok_or}
use Rattle.outcome.specs.declared.answer.Refusal.{Refusal}
use Rattle.outcome.specs.declared.answer.Refusal.TheVariants.{NoStation, Draws}
use Rattle.outcome.specs.Outcome.{Verdict}
use Rattle.score.specs.Score.{Score, draws_in, note_draws, score_draws}
use Rattle.score.specs.Refusals.{note_refusal, refusal, refusal_at}
use Rattle.score.specs.declared.seq.Seq.{Seq}
use Rattle.score_draws.specs.Sum.{sum_of}
use Rattle.score_draws.proofs.Last.{sum_over, total_exact, total_fits, refused_first, refused_last, refused_not}
use Rattle.session.specs.Named.{named_in}
use Rattle.session.specs.declared.session.Session.{Session}
use Rattle.session.specs.declared.station.Station.{Station}
use Rattle.session.proofs.Naming.{named_one, named_none}
use Rattle.plan.specs.Plan.{unlent, planned_draws, but_for, plan_refusal, plan_refusal_at, outcome_of, planned_at, plan_on}
use Rattle.plan.proofs.Refused.{refused_alike_at}
use Rattle.plan.proofs.Totals.{totals_equal}

-- a score with buffers that are just long enough
module _ (seq : Seq) (notes : List ℕ) (lane : List Float) (n d : ℕ) where
  abbrev pub lent_just : Score
  lent_just = record { seq = seq; notes = notes; lane = lane; n = n; room = n; string = 9600 }

  as_lent : planned_at (unlent seq notes lane n) d ≡ planned_at lent_just d
  unfolding planned_at plan_refusal_at planned_draws plan_refusal but_for note_refusal note_draws draws_in
  as_lent = refl

  outcome_is : planned_at (unlent seq notes lane n) d ≡ outcome_of (refusal_at lent_just d) (score_draws lent_just)
  unfolding planned_at
  outcome_is =
      as_lent ∙ (λ j. outcome_of (refused_alike_at lent_just (let h : n ≤ n = omega arith in h) (let h : 9600 ≤ 9600 = omega arith in h) d j) (totals_equal lent_just j))

  outcome_by : (v : Verdict) → v ≡ refusal_at lent_just d → outcome_of v (score_draws lent_just) ≡ planned_at (unlent seq notes lane n) d
  outcome_by v e = ap (λ (w : Verdict). outcome_of w (score_draws lent_just)) e ∙ sym outcome_is

  pub refused_plan : {r : Refusal} → Err r ≡ refusal lent_just → Err r ≡ planned_at (unlent seq notes lane n) d
  refused_plan {r} e = outcome_by (Err r) (refused_first lent_just d e)

  module _ (none : Ok tt ≡ refusal lent_just) (fits : d < 2 ^ 64) where
    overdrawn_plan : None ≡ sum_of (2 ^ 64 - 1 - d) (score_draws lent_just) → Err Draws ≡ planned_at (unlent seq notes lane n) d
    overdrawn_plan o = outcome_by (Err Draws) (refused_last lent_just d none fits (sum_over (2 ^ 64 - 1 - d) (score_draws lent_just) o))

    accepted_plan : (t : ℕ) → Some t ≡ sum_of (2 ^ 64 - 1 - d) (score_draws lent_just) → Ok t ≡ planned_at (unlent seq notes lane n) d
    accepted_plan t o =
        ap Ok (total_exact (2 ^ 64 - 1 - d) (score_draws lent_just) t o)
        ∙ outcome_by (Ok tt) (refused_not lent_just d none fits (total_fits (2 ^ 64 - 1 - d) (score_draws lent_just) t o))

    pub summed_plan : (o : Option ℕ) → o ≡ sum_of (2 ^ 64 - 1 - d) (score_draws lent_just) → ok_or o Draws ≡ planned_at (unlent seq notes lane n) d
    summed_plan None e = overdrawn_plan e
    summed_plan (Some t) e = accepted_plan t e

-- on a session: 33 first
module _ (a : Session) (k : ℕ) (s : Score) where
  pub no_station_lem : named_in a k ≡ None → Err NoStation ≡ plan_on a k s
  unfolding plan_on
  no_station_lem none = rw (lt-ltb 7 k (named_none a k none)) refl

  pub on_station_lem : {x : Station} → named_in a k ≡ Some x → {o : Outcome} → o ≡ planned_at s x.draw → o ≡ plan_on a k s
  unfolding plan_on
  on_station_lem named e =
      let one = named_one a k named in
      let few : k ≤ 7 = omega (arith, one.0) in
      rw (le-ltb 7 k few) (e ∙ ap (λ (y : Station). planned_at s y.draw) one.1)
