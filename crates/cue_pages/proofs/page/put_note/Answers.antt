-- `cue_pages::page::put_note` meets its contract. Assumes nothing.
use Rattle.text_listing.proofs.Put.{room_first, room_next, printed_both}
use borrow.Author.Rules.{rules}
use Rattle.cue_pages.proofs.page.put_note.Goals as goal

pub put_line-next-requires : goal.put_line-next-requires
put_line-next-requires c = room_first _ _ c.requires

pub put_page_end-requires : goal.put_page_end-requires
put_page_end-requires c = room_next _ _ c.requires c.put_line-next.ensures

pub returns : goal.returns
returns c =
    printed_both _ _ c.requires c.put_line-next.ensures c.put_page_end.ensures
