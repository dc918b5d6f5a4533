-- `text_plan::total::plan_score` meets its contract. Assumes nothing.
use Rattle.text_plan.proofs.Telling.{said_total, said_refused}
use Rattle.text_plan.proofs.total.plan_score.Goals as goal

pub returns-in-Ok : goal.returns-in-Ok
returns-in-Ok c =
    said_total _ _ c.open-session.ensures c.seq-seq.ensures c.planned_draws-plan.ensures c.in-Ok.is

pub returns-in-Err : goal.returns-in-Err
returns-in-Err c =
    said_refused _ _ c.open-session.ensures c.seq-seq.ensures c.planned_draws-plan.ensures c.in-Err.is c.number.ensures
