-- `cue_pages::page::put_page_end` meets its contract. Assumes nothing.
use Rattle.text_listing.proofs.Put.{printed_none, room_as, printed_as}
use borrow.Author.Rules.{rules}
use Rattle.cue_pages.proofs.Pages.{within_page, last_line, page_full}
use Rattle.cue_pages.proofs.page.put_page_end.Goals as goal

pub returns-then-lines-ne0 : goal.returns-then-lines-ne0
returns-then-lines-ne0 c = printed_as (within_page _ _ c.if-lines-ne0.true) (printed_none _ _)

pub returns-then-lines-count : goal.returns-then-lines-count
returns-then-lines-count c = printed_as (last_line _ _ c.if-lines-ne0.false c.if-lines-count.true) (printed_none _ _)

pub put_byte-requires : goal.put_byte-requires
put_byte-requires c = room_as (page_full _ _ c.if-lines-ne0.false c.if-lines-count.false) c.requires

pub returns : goal.returns
returns c = printed_as (page_full _ _ c.if-lines-ne0.false c.if-lines-count.false) c.put_byte.ensures
