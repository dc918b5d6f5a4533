-- `board::shape::byte_for` meets its contract. Assumes nothing.
use mathlib.Core.Path.{refl, sym, ◌∙◌}
use Rattle.laws.proofs.If.{if_true, if_false}
use Rattle.board.specs.Shape.{byte_for}
use Rattle.board.proofs.Shapes.{covers_from, covers_within}
use Rattle.board.proofs.shape.byte_for.Goals as goal

pub overflow_sub-result : goal.overflow_sub-result
overflow_sub-result c = covers_from _ _ _ (sym c.covered.ensures ∙ c.if-covered.true)

pub bounds-bytes-at : goal.bounds-bytes-at
bounds-bytes-at c = covers_within _ _ _ (sym c.covered.ensures ∙ c.if-covered.true)

pub returns-then-covered : goal.returns-then-covered
unfolding byte_for
returns-then-covered c = if_true _ (sym c.covered.ensures ∙ c.if-covered.true) refl

pub returns : goal.returns
unfolding byte_for
returns c = if_false _ (sym c.covered.ensures ∙ c.if-covered.false) refl
