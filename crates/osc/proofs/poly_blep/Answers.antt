-- `osc::poly_blep` meets its contract, one way out a line. Assumes nothing.
use mathlib.Core.Path.{refl}
use Rattle.laws.proofs.If.{if_true, if_false}
use Rattle.osc.specs.Osc.{poly_blep}
use Rattle.osc.proofs.poly_blep.Goals as goal

pub returns-then-dt : goal.returns-then-dt
unfolding poly_blep
returns-then-dt c = if_true _ c.if-dt.true refl

pub returns-then-t-dt : goal.returns-then-t-dt
unfolding poly_blep
returns-then-t-dt c = if_false _ c.if-dt.false (if_true _ c.if-t-dt.true refl)

pub returns-then-t-dt-2 : goal.returns-then-t-dt-2
unfolding poly_blep
returns-then-t-dt-2 c = if_false _ c.if-dt.false (if_false _ c.if-t-dt.false (if_true _ c.if-t-dt-2.true refl))

pub returns : goal.returns
unfolding poly_blep
returns c = if_false _ c.if-dt.false (if_false _ c.if-t-dt.false (if_false _ c.if-t-dt-2.false refl))
