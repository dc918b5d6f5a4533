-- `groove::timing::swing_delay` meets its contract. Assumes nothing.
use Rattle.std.proofs.Common.{refl, eq-eqb, ne_eqb}
use Rattle.laws.proofs.If.{if_true, if_false}
use Rattle.groove.specs.Timing.{swing_delay}
use Rattle.groove.proofs.timing.swing_delay.Goals as goal

pub returns-then-step-eq1 : goal.returns-then-step-eq1
unfolding swing_delay
returns-then-step-eq1 c = if_true _ (eq-eqb _ _ c.if-step-eq1.true) refl

pub returns : goal.returns
unfolding swing_delay
returns c = if_false _ (ne_eqb _ _ c.if-step-eq1.false) refl
