-- `wave::file_read` meets its contract. Assumes nothing.
use borrow.Author.Rules.{rules}
use Rattle.wave.proofs.Filed.{read_filed, written_fits}
use Rattle.wave.proofs.file_read.Goals as goal

pub slice_bounds-wave_text-end : goal.slice_bounds-wave_text-end
slice_bounds-wave_text-end c = rw c.count-read.ensures c.requires.prefix_len.1

pub returns : goal.returns
returns c =
    let score = c.args.score.now in
    let file = c.args.file.now in
    let filed = rw c.count-read.ensures at c.wave_text.ensures in
    let within = c.requires.prefix_len.0 in
    record {
      read_filed = read_filed score file _ _ within filed c.requires.in_bounds c.requires.in_bounds_2;
      result_in_bounds = written_fits score file _ _ within filed;
    }
