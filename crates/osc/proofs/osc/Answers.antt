-- `osc::osc` meets its contract: the shape is matched, then the test. Assumes nothing.
use mathlib.Core.Path.{refl}
use Rattle.laws.proofs.If.{if_true, if_false}
use Rattle.osc.specs.Osc.{osc_of}
use borrow.Author.Rules.{rules}
use Rattle.osc.proofs.osc.Goals as goal

pub returns-in-Sine : goal.returns-in-Sine
unfolding osc_of
returns-in-Sine c = rw c.in-Sine.is c.sin.ensures

pub returns-then-phase : goal.returns-then-phase
unfolding osc_of
returns-then-phase c = rw c.in-Square.is (if_true _ c.if-phase.true refl)

pub returns-else-phase : goal.returns-else-phase
unfolding osc_of
returns-else-phase c = rw c.in-Square.is (if_false _ c.if-phase.false refl)

pub returns-then-phase-2 : goal.returns-then-phase-2
unfolding osc_of
returns-then-phase-2 c = rw c.in-Triangle.is (if_true _ c.if-phase-2.true refl)

pub returns-else-phase-2 : goal.returns-else-phase-2
unfolding osc_of
returns-else-phase-2 c = rw c.in-Triangle.is (if_false _ c.if-phase-2.false refl)

pub returns-in-Saw : goal.returns-in-Saw
unfolding osc_of
returns-in-Saw c = rw c.in-Saw.is refl
