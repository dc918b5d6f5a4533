-- `text_lines::field` meets its contract. Assumes nothing.
use Rattle.text_lines.specs.Line.{field}
use Rattle.text_lines.proofs.field.Goals as goal

pub returns-in_err-next : goal.returns-in_err-next
unfolding field
returns-in_err-next c = rw (c.from_residual.ensures, ← (rw c.in_err-next.was at c.expect.ensures))

pub returns : goal.returns
unfolding field
returns c = rw (← (rw c.in_ok-next.was at c.expect.ensures)) c.value.ensures
