-- `cue_line::cell::put_right` meets its contract. Assumes nothing.
use Rattle.cue_line.specs.Columns.{cell_text}
use Rattle.cue_line.proofs.Right.{spaces_room, text_room, printed_right}
use Rattle.cue_line.proofs.cell.put_right.Goals as goal

pub put_spaces-next-requires : goal.put_spaces-next-requires
put_spaces-next-requires c =
    spaces_room _ (cell_text c.args.cell) c.cell_length-length.ensures c.saturating_sub.ensures c.requires

pub put_cell-requires : goal.put_cell-requires
put_cell-requires c =
    text_room _ _ c.cell_length-length.ensures c.saturating_sub.ensures c.requires c.put_spaces-next.ensures

pub returns : goal.returns
returns c =
    printed_right _ _ c.cell_length-length.ensures c.saturating_sub.ensures c.requires c.put_spaces-next.ensures c.put_cell.ensures
