-- `score::place::place_note` meets its contract. Assumes nothing.
use mathlib.Core.Path.{sym, ◌∙◌}
use borrow.Author.Tests.{eq-eqb, ne_eqb}
use Rattle.laws.proofs.If.{if_true, if_false}
use Rattle.score.specs.Score.{place_of}
use borrow.Author.Rules.{rules}
use Rattle.score.proofs.place.place_note.Goals as goal

pub returns-then-len-eq0 : goal.returns-then-len-eq0
unfolding place_of
returns-then-len-eq0 c = if_true _ (eq-eqb _ _ (sym c.len.ensures.value ∙ c.if-len-eq0.true)) c.straight_place.ensures

pub returns : goal.returns
unfolding place_of
returns c = if_false _ (ne_eqb _ _ (λ e. c.if-len-eq0.false (c.len.ensures.value ∙ e))) c.mapped_place.ensures
