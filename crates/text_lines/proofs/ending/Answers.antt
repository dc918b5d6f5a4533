-- `text_lines::ending` meets its contract. Assumes nothing.
use Rattle.text_lines.proofs.Reading.{newline_placed}
use Rattle.text_lines.specs.Line.{ending}
use Rattle.text_lines.proofs.ending.Goals as goal

pub returns-in_err-last : goal.returns-in_err-last
unfolding ending
returns-in_err-last c =
    record {
      result_after = rw (c.from_residual.ensures, ← (rw c.in_err-last.was at c.fields.ensures.result_after));
      stored = c.fields.ensures.stored;
    }

pub returns : goal.returns
unfolding ending
returns c =
    let read = rw c.in_ok-last.was at c.fields.ensures.result_after in
    record {
      result_after = rw (← read) (newline_placed _ 10 _ c.expect.result c.expect.ensures);
      stored = c.fields.ensures.stored;
    }
