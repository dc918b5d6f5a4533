-- `text_listing::lines::put_refusal` meets its contract. Assumes nothing.
use mathlib.Core.List.{[], ◌∷◌}
use Rattle.text_listing.specs.Lines.{line_end}
use Rattle.text_listing.proofs.Put.{second_room, third_room, three}
use borrow.Author.Rules.{rules}
use Rattle.text_listing.proofs.lines.put_refusal.Goals as goal

pub put_decimal_field-last-requires : goal.put_decimal_field-last-requires
put_decimal_field-last-requires c =
    second_room (82 ∷ []) _ line_end c.requires c.put_byte-first.ensures

pub put_byte-requires : goal.put_byte-requires
put_byte-requires c =
    third_room (82 ∷ []) _ line_end c.requires c.put_byte-first.ensures c.put_decimal_field-last.ensures

pub returns : goal.returns
returns c =
    three (82 ∷ []) _ line_end c.requires c.put_byte-first.ensures c.put_decimal_field-last.ensures c.put_byte.ensures
