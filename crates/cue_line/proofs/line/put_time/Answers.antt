-- `cue_line::line::put_time` meets its contract. Assumes nothing.
use Rattle.text_listing.proofs.Put.{room_first, second_room, part_room, last_room, four}
use borrow.Author.Rules.{rules}
use Rattle.cue_line.proofs.line.put_time.Goals as goal

pub put_right-second-requires : goal.put_right-second-requires
put_right-second-requires c = room_first _ _ c.requires

pub put_right-third-requires : goal.put_right-third-requires
put_right-third-requires c = second_room _ _ _ c.requires c.put_right-second.ensures

pub put_right-fourth-requires : goal.put_right-fourth-requires
put_right-fourth-requires c =
    part_room _ _ _ _ c.requires c.put_right-second.ensures c.put_right-third.ensures

pub put_right-requires : goal.put_right-requires
put_right-requires c =
    last_room _ _ _ _ c.requires c.put_right-second.ensures c.put_right-third.ensures c.put_right-fourth.ensures

pub returns : goal.returns
returns c =
    four _ _ _ _ c.requires c.put_right-second.ensures c.put_right-third.ensures c.put_right-fourth.ensures c.put_right.ensures
