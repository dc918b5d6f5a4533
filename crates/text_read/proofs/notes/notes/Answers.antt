-- `text_read::notes::notes` meets its contract. Assumes nothing.
use lib.ListN.{drop}
use Rattle.text_read.proofs.Gather.{noted_broken, noted_many, noted_fitting, noted_stored}
use Rattle.text_read.proofs.notes.notes.Goals as goal

pub returns-in_err-n : goal.returns-in_err-n
returns-in_err-n c =
    rw c.from_residual.ensures (noted_broken (drop c.args.start c.args.s.now) _ c.count_notes.ensures c.in_err-n.was)

pub returns-then-words-n : goal.returns-then-words-n
returns-then-words-n c =
    let a = c.args in
    noted_many (drop a.start a.s.now) _ c.count_notes.ensures c.in_ok-n.was c.if-words-n.true

pub store_notes-requires : goal.store_notes-requires
store_notes-requires c =
    let a = c.args in
    noted_fitting (drop a.start a.s.now) _ c.count_notes.ensures c.in_ok-n.was c.if-words-n.false

pub returns : goal.returns
returns c =
    let a = c.args in
    noted_stored (drop a.start a.s.now) _ c.count_notes.ensures c.in_ok-n.was c.store_notes.ensures
