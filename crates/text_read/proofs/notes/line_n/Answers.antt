-- `text_read::notes::line_n` meets its contract. Assumes nothing.
use lib.ListN.{drop}
use Rattle.text_read.proofs.Gather.{note_whole, note_short, note_none}
use Rattle.text_read.proofs.notes.line_n.Goals as goal

pub returns-in-Some : goal.returns-in-Some
returns-in-Some c =
    note_whole c.line.new.values _ {rest = drop c.in-Some.next c.args.s.now} (rw c.in-Some.is at c.line.ensures.result_after)

pub returns : goal.returns
returns c =
    let none = rw c.in_default.is at c.line.ensures.result_after in
    note_short c.line-2.new.values _ {rest = drop _ c.args.s.now} none (rw c.in_ok-last.was at c.line-2.ensures.result_after)

pub returns-in_err-last : goal.returns-in_err-last
returns-in_err-last c =
    rw c.from_residual.ensures (note_none _ (rw c.in_default.is at c.line.ensures.result_after) (rw c.in_err-last.was at c.line-2.ensures.result_after))
