-- A planning call from numbers and lists: the planning call's own definition.
use Rattle.std.specs.Prelude.{ℕ, ◌≡◌, List, [], Float, Some, None}
use Rattle.outcome.specs.Answer.{seen}
use Rattle.plan.specs.Plan.{unlent, plan_on}
use Rattle.score.specs.Score.{Score}
use Rattle.score.specs.declared.seq.Seq.{Seq}
use Rattle.raw_call.specs.Called.{Called, none, made, number_of_call, draws_after_call}
use Rattle.raw_call.specs.Raw.{Parts, Raw, session_in, seq_with, parts_in}

-- What was handed in, as in a score call's `ScoreExport`, n frames in the place of the buffers, and what was answered.
pub record PlanExport : Type 0 where
  pub raw : Raw
  pub station : ℕ
  pub notes : List ℕ
  pub lane : List Float
  pub n : ℕ
  pub number : ℕ
  pub draws₀ : ℕ
  pub draws : ℕ

-- what the planning call is handed with the `Seq` q
abbrev pub planned_with : Seq → PlanExport → Score
planned_with q e = unlent q e.notes e.lane e.n

-- a planning call leaves no frames
abbrev pub plan_called_on : Parts → PlanExport → Called
plan_called_on (Some (v, a)) e = made (seen (plan_on (session_in e.raw) e.station (planned_with (seq_with v a e.raw) e)) [])
plan_called_on None e = none

abbrev pub plan_called : PlanExport → Called
plan_called e = plan_called_on (parts_in e.raw) e

-- The contract: the number and the draws of that call.
pub record PlanExported (e : PlanExport) : Type 0 where
  pub number : e.number ≡ number_of_call (plan_called e)
  pub draws : e.draws ≡ draws_after_call e.draws₀ (plan_called e)
