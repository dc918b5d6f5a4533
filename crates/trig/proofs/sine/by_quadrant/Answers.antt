-- `trig::sine::by_quadrant` meets its contract. Assumes nothing.
use Rattle.std.proofs.Common.{ℕ, sym, ap, ◌∙◌, rules, ne_eqb}
use lib.Ieee.{neg}
use Rattle.laws.proofs.If.{if_false}
use Rattle.trig.specs.Trig.{quadrant}
use Rattle.trig.proofs.sine.by_quadrant.Goals as goal

pub returns-in-0 : goal.returns-in-0
unfolding quadrant
returns-in-0 c = c.sin_poly.ensures ∙ ap (λ (n : ℕ). quadrant n c.args.a) (sym c.in-0.is)

pub returns-in-1 : goal.returns-in-1
unfolding quadrant
returns-in-1 c = c.cos_poly.ensures ∙ ap (λ (n : ℕ). quadrant n c.args.a) (sym c.in-1.is)

pub returns-in-2 : goal.returns-in-2
unfolding quadrant
returns-in-2 c = ap neg c.sin_poly-in-2.ensures ∙ ap (λ (n : ℕ). quadrant n c.args.a) (sym c.in-2.is)

pub returns-in_default : goal.returns-in_default
unfolding quadrant
returns-in_default c =
    let n = c.args.n in
    let others = c.in_default.in_default-own.rest in
    if_false _ (ne_eqb n 0 others.0.0.1)
    (if_false _ (ne_eqb n 1 others.0.1)
    (if_false _ (ne_eqb n 2 others.1) (ap neg c.cos_poly-in_default.ensures)))
