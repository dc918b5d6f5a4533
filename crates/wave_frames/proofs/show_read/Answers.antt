-- `wave_frames::show_read` meets its contract. Assumes nothing.
use Rattle.wave_frames.proofs.Shown.{read_shown, written_counts}
use Rattle.wave_frames.proofs.show_read.Goals as goal

pub slice_bounds-put_file_lines-end : goal.slice_bounds-put_file_lines-end
slice_bounds-put_file_lines-end c = rw c.count-read.ensures c.requires.prefix_len.1

pub returns : goal.returns
returns c =
    let file = c.args.file.now in
    let page = c.args.page.now in
    let put = rw c.count-read.ensures at c.put_file_lines.ensures in
    let within = c.requires.prefix_len.0 in
    record {
      read_shown = read_shown file page _ _ within put c.requires.in_bounds;
      prefix_len_2 = written_counts file page _ _ within put;
    }
