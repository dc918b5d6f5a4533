-- `text_lines::line` meets its contract. Assumes nothing.
use Rattle.text_lines.specs.Line.{line}
use Rattle.text_lines.proofs.line.Goals as goal

pub returns-in_err-next : goal.returns-in_err-next
unfolding line
returns-in_err-next c =
    let letter = rw c.in_err-next.was at c.expect.ensures in
    record {
      result_after = rw (c.from_residual.ensures, ← letter);
      stored = rw (← letter);
    }

pub returns : goal.returns
unfolding line
returns c =
    let letter = rw c.in_ok-next.was at c.expect.ensures in
    record {
      result_after = rw (← letter) c.ending.ensures.result_after;
      stored = rw (← letter) c.ending.ensures.stored;
    }
