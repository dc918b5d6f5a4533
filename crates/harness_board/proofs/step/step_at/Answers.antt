-- `harness_board::step::step_at` meets its contract. Assumes nothing.
use mathlib.Core.Path.{◌∙◌}
use borrow.Author.Tests.{eq-eqb, ne_eqb}
use Rattle.harness_board.proofs.Steps.{halts, next_none, next_is}
use Rattle.harness_board.proofs.step.step_at.Goals as goal

pub returns-then-at-ops : goal.returns-then-at-ops
returns-then-at-ops c = halts _ _ (next_none _ _ c.if-at-ops.true)

pub returns-then-kind-eq0 : goal.returns-then-kind-eq0
returns-then-kind-eq0 c =
    let a = c.args in
    rw (next_is a.ops.now a.at c.if-at-ops.false, eq-eqb _ _ c.if-kind-eq0.true) c.write_step.ensures

pub returns-then-kind-eq1 : goal.returns-then-kind-eq1
returns-then-kind-eq1 c =
    let a = c.args in
    let n = next_is a.ops.now a.at c.if-at-ops.false in
    rw (n, ne_eqb _ _ c.if-kind-eq0.false, eq-eqb _ _ c.if-kind-eq1.true) c.read_step.ensures

pub returns-then-kind-eq2 : goal.returns-then-kind-eq2
returns-then-kind-eq2 c =
    let a = c.args in
    let n = next_is a.ops.now a.at c.if-at-ops.false in
    rw (n, ne_eqb _ _ c.if-kind-eq0.false, ne_eqb _ _ c.if-kind-eq1.false, eq-eqb _ _ c.if-kind-eq2.true)
    (rw (c.tick-tick.ensures.after, c.tick-tick.ensures.played))

pub returns : goal.returns
returns c =
    let a = c.args in
    let n = next_is a.ops.now a.at c.if-at-ops.false in
    halts _ _
    (n ∙ rw (ne_eqb _ _ c.if-kind-eq0.false, ne_eqb _ _ c.if-kind-eq1.false, ne_eqb _ _ c.if-kind-eq2.false))
