-- `text_lines::line_s` meets its contract. Assumes nothing.
use Rattle.text_lines.specs.Line.{line_s}
use Rattle.text_lines.proofs.Reading.{numbers_read}
use Rattle.text_lines.proofs.line_s.Goals as goal

pub returns-in_err-next : goal.returns-in_err-next
unfolding line_s
returns-in_err-next c = rw (c.from_residual.ensures, ← (rw c.in_err-next.was at c.line.ensures.result_after))

pub returns : goal.returns
returns c =
    let next = rw c.in_ok-next.was at c.line.ensures.result_after in
    rw (c.float_at-3.ensures, c.float_at-2.ensures, c.float_at.ensures) (numbers_read c.line.new.values _ c.line.auto.values next)
