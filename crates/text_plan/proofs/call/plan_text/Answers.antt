-- `text_plan::call::plan_text` meets its contract. Assumes nothing.
use mathlib.Core.Path.{sym}
use native.Mathlib.Omega.{arith}
use lib.Seq.{length-take-le}
use Rattle.text_judge.proofs.Past.{judged_past}
use Rattle.text_plan.proofs.Telling.{told_refused, told_planned}
use Rattle.std.proofs.lemmas.Result.{err_from_is_err_and}
use Rattle.text_plan.proofs.call.plan_text.Goals as goal

pub overflow_mul-score : goal.overflow_mul-score
overflow_mul-score c =
    let past = judged_past _ _ c.requires c.judge_text.ensures c.in_ok-score.was in
    record { fits = omega (arith, past.few) }

pub slice_bounds-plan_score-end : goal.slice_bounds-plan_score-end
slice_bounds-plan_score-end c =
    let whole = judged_past _ _ c.requires c.judge_text.ensures c.in_ok-score.was in
    omega (arith, whole.few, c.requires, c.judge_text.auto.words)

pub slice_bounds-plan_score-end-2 : goal.slice_bounds-plan_score-end-2
slice_bounds-plan_score-end-2 c =
    let cut = judged_past _ _ c.requires c.judge_text.ensures c.in_ok-score.was in
    sym (length-take-le _ _ (omega (arith, cut.few, c.requires, c.judge_text.auto.words)))

pub returns-in_err-score : goal.returns-in_err-score
returns-in_err-score c =
    let p = err_from_is_err_and c.from_residual.result c.from_residual.ensures.1 in
    rw (p.1, p.2) (told_refused c.judge_text.ensures c.in_err-score.was)

pub returns : goal.returns
returns c =
    told_planned c.judge_text.ensures c.requires c.in_ok-score.was c.plan_score.ensures
