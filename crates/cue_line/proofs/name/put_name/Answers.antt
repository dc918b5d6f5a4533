-- `cue_line::name::put_name` meets its contract. Assumes nothing.
use Rattle.text_listing.proofs.Put.{room_as, printed_as}
use borrow.Author.Rules.{rules}
use Rattle.cue_line.proofs.name.put_name.Goals as goal

pub put_bytes-requires : goal.put_bytes-requires
put_bytes-requires c = room_as c.wave_name-name.ensures c.requires

pub returns : goal.returns
returns c = printed_as c.wave_name-name.ensures c.put_bytes.ensures
