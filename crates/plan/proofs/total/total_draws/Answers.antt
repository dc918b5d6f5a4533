-- `plan::total::total_draws` meets its contract. Assumes nothing.
use Prim.Native.Nat.{◌^◌, ◌<◌}
use mathlib.Core.Path.{sym, ◌∙◌}
use native.Mathlib.Omega.{arith}
use Rattle.outcome.proofs.First.{left_with}
use Rattle.plan.proofs.Ways.{refused_plan, summed_plan}
use Rattle.plan.proofs.total.total_draws.Goals as goal

pub returns-in_err-score_verdict : goal.returns-in_err-score_verdict
returns-in_err-score_verdict c =
    let a = c.args in
    left_with _ c.from_residual.ensures.1 ∙ refused_plan a.seq a.notes.now a.lane.now a.n a.draw c.in_err-score_verdict.ensures

pub score_draws-requires : goal.score_draws-requires
score_draws-requires c = sym c.in_ok-score_verdict.ensures

pub returns : goal.returns
returns c =
    let a = c.args in
    let draw_below : a.draw < 2 ^ 64 = omega arith in
    c.ok_or.ensures.value ∙ summed_plan a.seq a.notes.now a.lane.now a.n a.draw c.in_ok-score_verdict.ensures draw_below c.score_draws.result c.score_draws.ensures
