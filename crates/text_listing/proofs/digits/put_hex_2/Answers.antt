-- `text_listing::digits::put_hex_2` meets its contract. Assumes nothing.
use Rattle.text_listing.proofs.Put.{first_room, rest_room, printed_parts}
use Rattle.text_listing.proofs.Numbers.{two_digits}
use borrow.Author.Rules.{rules}
use Rattle.text_listing.proofs.digits.put_hex_2.Goals as goal

pub put_byte-next-requires : goal.put_byte-next-requires
put_byte-next-requires c = rw c.hex_digit.ensures (first_room _ _ (two_digits 16 c.args.v) c.requires)

pub put_byte-requires : goal.put_byte-requires
put_byte-requires c =
    rw c.hex_digit-2.ensures (rest_room _ _ (two_digits 16 c.args.v) c.requires (rw c.hex_digit.ensures at c.put_byte-next.ensures))

pub returns : goal.returns
returns c =
    printed_parts _ _ (two_digits 16 c.args.v) c.requires (rw c.hex_digit.ensures at c.put_byte-next.ensures)
    (rw c.hex_digit-2.ensures at c.put_byte.ensures)
