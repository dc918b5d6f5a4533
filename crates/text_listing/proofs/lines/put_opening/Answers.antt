-- `text_listing::lines::put_opening` meets its contract. Assumes nothing.
use mathlib.Core.List.{[], ◌∷◌}
use Rattle.text_listing.specs.Lines.{line_end}
use Rattle.text_listing.proofs.Put.{second_room, part_room, last_room, four}
use borrow.Author.Rules.{rules}
use Rattle.text_listing.proofs.lines.put_opening.Goals as goal

pub put_hex_16_field-second-requires : goal.put_hex_16_field-second-requires
put_hex_16_field-second-requires c = second_room (71 ∷ []) _ _ c.requires c.put_byte-first.ensures

pub put_decimal_field-last-requires : goal.put_decimal_field-last-requires
put_decimal_field-last-requires c =
    part_room (71 ∷ []) _ _ line_end c.requires c.put_byte-first.ensures c.put_hex_16_field-second.ensures

pub put_byte-requires : goal.put_byte-requires
put_byte-requires c =
    last_room (71 ∷ []) _ _ line_end c.requires c.put_byte-first.ensures c.put_hex_16_field-second.ensures c.put_decimal_field-last.ensures

pub returns : goal.returns
returns c =
    four (71 ∷ []) _ _ line_end c.requires c.put_byte-first.ensures c.put_hex_16_field-second.ensures c.put_decimal_field-last.ensures c.put_byte.ensures
