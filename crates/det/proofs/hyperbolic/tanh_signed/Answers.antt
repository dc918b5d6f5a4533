-- `det::hyperbolic::tanh_signed` meets its contract. Assumes nothing.
use borrow.Author.Rules.{rules}
use mathlib.Core.Path.{refl}
use Rattle.laws.proofs.If.{if_true, if_false}
use Rattle.det.specs.Tanh.{tanh_signed}
use Rattle.det.proofs.hyperbolic.tanh_signed.Goals as goal

pub returns-then-x : goal.returns-then-x
unfolding tanh_signed
returns-then-x c = if_true _ c.if-x.true refl

pub returns-then-x-2 : goal.returns-then-x-2
unfolding tanh_signed
returns-then-x-2 c = if_false _ c.if-x.false (if_true _ c.if-x-2.true (rw c.expm1_small-e.ensures))

pub returns : goal.returns
unfolding tanh_signed
returns c = if_false _ c.if-x.false (if_false _ c.if-x-2.false (rw c.exp.ensures))
