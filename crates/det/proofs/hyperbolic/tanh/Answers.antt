-- `det::hyperbolic::tanh` meets its contract. Assumes nothing.
use borrow.Author.Rules.{rules}
use mathlib.Core.Path.{sym, ◌∙◌}
use Rattle.laws.proofs.If.{if_true, if_false}
use Rattle.det.specs.Tanh.{tanh64}
use Rattle.ieee.proofs.Nans.{ne_self}
use Rattle.det.proofs.hyperbolic.tanh.Goals as goal

pub returns-then-x : goal.returns-then-x
unfolding tanh64
returns-then-x c = if_true _ (sym (ne_self c.args.x) ∙ c.if-x.true) c.not_a_number.ensures

pub returns : goal.returns
unfolding tanh64
returns c =
    if_false _ (sym (ne_self c.args.x) ∙ c.if-x.false)
    (rw (c.tanh_signed.ensures, c.unit_sign.ensures, c.magnitude.ensures))
