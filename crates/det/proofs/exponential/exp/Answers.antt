-- `det::exponential::exp` meets its contract. Assumes nothing.
use borrow.Author.Rules.{rules}
use mathlib.Core.Path.{refl}
use Rattle.laws.proofs.If.{if_true, if_false}
use Rattle.det.specs.Exp.{exp64}
use Rattle.det.proofs.exponential.exp.Goals as goal

pub returns-then-x : goal.returns-then-x
unfolding exp64
returns-then-x c = if_true _ c.if-x.true (rw c.infinity.ensures)

pub returns-then-x-2 : goal.returns-then-x-2
unfolding exp64
returns-then-x-2 c = if_false _ c.if-x.false (if_true _ c.if-x-2.true refl)

pub returns : goal.returns
unfolding exp64
returns c = if_false _ c.if-x.false (if_false _ c.if-x-2.false (rw c.exp_reduced.ensures))
