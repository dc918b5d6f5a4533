-- `det::power::powf` meets its contract. Assumes nothing.
use borrow.Author.Rules.{rules}
use mathlib.Core.Path.{refl}
use Rattle.laws.proofs.If.{if_true, if_false}
use Rattle.det.specs.Pow.{powf64}
use Rattle.det.proofs.power.powf.Goals as goal

pub returns-then-y : goal.returns-then-y
unfolding powf64
returns-then-y c = if_true _ c.if-y.true refl

pub returns-then-y-2 : goal.returns-then-y-2
unfolding powf64
returns-then-y-2 c = if_false _ c.if-y.false (if_true _ c.if-x.true (if_true _ c.if-y-2.true refl))

pub returns-then-x : goal.returns-then-x
unfolding powf64
returns-then-x c =
    if_false _ c.if-y.false
    (if_true _ c.if-x.true
    (if_false _ c.if-y-2.false c.infinity.ensures))

pub returns-then-x-2 : goal.returns-then-x-2
unfolding powf64
returns-then-x-2 c =
    if_false _ c.if-y.false
    (if_false _ c.if-x.false
    (if_true _ c.if-x-2.true c.not_a_number.ensures))

pub returns : goal.returns
unfolding powf64
returns c =
    if_false _ c.if-y.false
    (if_false _ c.if-x.false
    (if_false _ c.if-x-2.false
    (rw (c.exp.ensures, c.ln.ensures))))
