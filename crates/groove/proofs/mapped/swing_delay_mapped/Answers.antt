-- `groove::mapped::swing_delay_mapped` meets its contract. Assumes nothing.
use Rattle.std.proofs.Common.{refl, rules, eq-eqb, ne_eqb}
use Rattle.laws.proofs.If.{if_true, if_false}
use Rattle.groove.specs.Mapped.{swing_delay64}
use Rattle.groove.proofs.mapped.swing_delay_mapped.Goals as goal

pub returns-then-step-eq1 : goal.returns-then-step-eq1
unfolding swing_delay64
returns-then-step-eq1 c = if_true _ (eq-eqb _ _ c.if-step-eq1.true) (rw (c.f32_to_f64_with_nan.ensures, c.f32_to_f64_with_nan-wide.ensures))

pub returns : goal.returns
unfolding swing_delay64
returns c = if_false _ (ne_eqb _ _ c.if-step-eq1.false) refl
