-- `text_lines::value` meets its contract. Assumes nothing.
use borrow.Author.Tests.{eq-eqb, ne_eqb}
use Rattle.text_lines.specs.Line.{value}
use borrow.Author.Rules.{rules}
use Rattle.text_lines.proofs.value.Goals as goal

pub returns-then-kind-eq-FLOAT : goal.returns-then-kind-eq-FLOAT
unfolding value
returns-then-kind-eq-FLOAT c = rw (eq-eqb _ _ c.if-kind-eq-FLOAT.true) c.hex.ensures

pub returns : goal.returns
unfolding value
returns c = rw (ne_eqb _ _ c.if-kind-eq-FLOAT.false) c.decimal.ensures
