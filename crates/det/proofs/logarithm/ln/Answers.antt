-- `det::logarithm::ln` meets its contract. Assumes nothing.
use borrow.Author.Rules.{rules}
use mathlib.Core.Path.{sym, ap, ◌∙◌}
use lib.Ieee.{neg}
use Rattle.laws.proofs.If.{if_true, if_false}
use Rattle.det.specs.Ln.{ln64}
use Rattle.ieee.proofs.Nans.{ne_self, no_nan}
use Rattle.det.proofs.Numbers.{scaled_number}
use Rattle.det.proofs.logarithm.ln.Goals as goal

pub returns-then-x : goal.returns-then-x
unfolding ln64
returns-then-x c = if_true _ (sym (ne_self c.args.x) ∙ c.if-x.true) c.not_a_number.ensures

pub returns-then-x-2 : goal.returns-then-x-2
unfolding ln64
returns-then-x-2 c =
    if_false _ (sym (ne_self c.args.x) ∙ c.if-x.false) (if_true _ c.if-x-2.true c.not_a_number-then-x-2.ensures)

pub returns-then-x-3 : goal.returns-then-x-3
unfolding ln64 neg
returns-then-x-3 c =
    if_false _ (sym (ne_self c.args.x) ∙ c.if-x.false)
    (if_false _ c.if-x-2.false
    (if_true _ c.if-x-3.true (ap neg c.infinity.ensures)))

pub ln_split-requires : goal.ln_split-requires
ln_split-requires c =
    scaled_number c.args.x (no_nan c.args.x c.if-x.false)

pub returns-then-x-4 : goal.returns-then-x-4
unfolding ln64
returns-then-x-4 c =
    if_false _ (sym (ne_self c.args.x) ∙ c.if-x.false)
    (if_false _ c.if-x-2.false
    (if_false _ c.if-x-3.false
    (if_true _ c.if-x-4.true c.ln_split.ensures)))

pub ln_split-requires-2 : goal.ln_split-requires-2
ln_split-requires-2 c = no_nan c.args.x c.if-x.false

pub returns : goal.returns
unfolding ln64
returns c =
    if_false _ (sym (ne_self c.args.x) ∙ c.if-x.false)
    (if_false _ c.if-x-2.false
    (if_false _ c.if-x-3.false
    (if_false _ c.if-x-4.false c.ln_split-2.ensures)))
