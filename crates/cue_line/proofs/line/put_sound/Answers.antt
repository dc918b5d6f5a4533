-- `cue_line::line::put_sound` meets its contract. Assumes nothing.
use Rattle.text_listing.specs.Lines.{line_end}
use Rattle.text_listing.proofs.Put.{room_first, second_room, part_room, last_room, four}
use borrow.Author.Rules.{rules}
use Rattle.cue_line.proofs.line.put_sound.Goals as goal

pub put_name-second-requires : goal.put_name-second-requires
put_name-second-requires c = room_first _ _ c.requires

pub put_right-third-requires : goal.put_right-third-requires
put_right-third-requires c = second_room _ _ _ c.requires c.put_name-second.ensures

pub put_right-fourth-requires : goal.put_right-fourth-requires
put_right-fourth-requires c =
    part_room _ _ _ line_end c.requires c.put_name-second.ensures c.put_right-third.ensures

pub put_byte-requires : goal.put_byte-requires
put_byte-requires c =
    last_room _ _ _ line_end c.requires c.put_name-second.ensures c.put_right-third.ensures c.put_right-fourth.ensures

pub returns : goal.returns
returns c =
    four _ _ _ line_end c.requires c.put_name-second.ensures c.put_right-third.ensures c.put_right-fourth.ensures c.put_byte.ensures
