-- `text_sheet::sheet::print_score` meets its contract. Assumes nothing.
use native.Mathlib.Omega.{arith}
use Rattle.score.specs.Score.{Score}
use Rattle.text_read.specs.Text.{seq_of}
use Rattle.text_judge.specs.Call.{call_of}
use borrow.Author.Rules.{rules}
use Rattle.text_sheet.proofs.Ways.{score_short, score_room, score_printed}
use Rattle.text_sheet.proofs.sheet.print_score.Goals as goal

pub returns-then-page-length : goal.returns-then-page-length
returns-then-page-length c =
    let score_in_start : Score = call_of (seq_of c.args.score.numbers c.args.score.env c.args.score.sound) c.args.notes.now c.args.score.numbers.n in
    score_short score_in_start c.args.score.draw c.requires.draw_value (omega arith) c.sheet_length-length.ensures c.if-page-length.true

pub put_sheet-end-requires : goal.put_sheet-end-requires
put_sheet-end-requires c =
    let score_in_start : Score = call_of (seq_of c.args.score.numbers c.args.score.env c.args.score.sound) c.args.notes.now c.args.score.numbers.n in
    rw c.seq-seq.ensures (record {
      draw_value = c.requires.draw_value;
      room = score_room score_in_start c.args.score.draw c.requires.draw_value (omega (
        arith,
        c.requires.notes_len_bound,
      )) c.sheet_length-length.ensures c.if-page-length.false;
    })

pub returns : goal.returns
returns c =
    let score_in_start : Score = call_of (seq_of c.args.score.numbers c.args.score.env c.args.score.sound) c.args.notes.now c.args.score.numbers.n in
    let printed = rw c.seq-seq.ensures at c.put_sheet-end.ensures in
    score_printed score_in_start c.args.score.draw c.requires.draw_value (omega (arith, c.requires.notes_len_bound)) c.sheet_length-length.ensures c.if-page-length.false printed
