-- `cue_line::line::put_line` meets its contract. Assumes nothing.
use Rattle.text_listing.proofs.Put.{room_first, room_next, printed_both}
use borrow.Author.Rules.{rules}
use Rattle.cue_line.specs.Line.{line_text}
use Rattle.cue_line.proofs.line.put_line.Goals as goal

pub put_time-next-requires : goal.put_time-next-requires
unfolding line_text
put_time-next-requires c = room_first _ _ c.requires

pub put_sound-requires : goal.put_sound-requires
unfolding line_text
put_sound-requires c = room_next _ _ c.requires c.put_time-next.ensures

pub returns : goal.returns
unfolding line_text
returns c =
    printed_both _ _ c.requires c.put_time-next.ensures c.put_sound.ensures
