-- `text_listing::lines::put_listing` meets its contract. Assumes nothing.
use Rattle.text_listing.proofs.Put.{room_first, room_next, printed_both}
use borrow.Author.Rules.{rules}
use Rattle.text_listing.proofs.lines.put_listing.Goals as goal

pub put_opening-first-requires : goal.put_opening-first-requires
put_opening-first-requires c = room_first _ _ c.requires

pub put_frames-requires : goal.put_frames-requires
put_frames-requires c =
    room_next _ _ c.requires c.put_opening-first.ensures

pub returns : goal.returns
returns c =
    printed_both _ _ c.requires c.put_opening-first.ensures c.put_frames.ensures
