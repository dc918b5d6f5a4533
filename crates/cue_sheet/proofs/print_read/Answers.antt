-- `cue_sheet::print_read` meets its contract. Assumes nothing.
use borrow.Author.Rules.{rules}
use Rattle.cue_sheet.proofs.Page.{read_printed, written_fits}
use Rattle.cue_sheet.proofs.print_read.Goals as goal

pub slice_bounds-sheet_text-end : goal.slice_bounds-sheet_text-end
slice_bounds-sheet_text-end c = rw c.count-read.ensures c.requires.prefix_len.1

pub returns : goal.returns
returns c =
    let score = c.args.score.now in
    let page = c.args.page.now in
    let printed = rw c.count-read.ensures at c.sheet_text.ensures in
    let within = c.requires.prefix_len.0 in
    record {
      read_printed = read_printed score page _ _ within printed c.requires.in_bounds c.requires.in_bounds_2;
      result_in_bounds = written_fits score page _ _ within printed;
    }
