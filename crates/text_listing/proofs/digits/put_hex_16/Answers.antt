-- `text_listing::digits::put_hex_16` meets its contract. Assumes nothing.
use Rattle.text_listing.proofs.Put.{first_room, rest_room, printed_parts}
use mathlib.Core.Path.{refl}
use Rattle.text_listing.proofs.Numbers.{digits_twice}
use borrow.Author.Rules.{rules}
use Rattle.text_listing.proofs.digits.put_hex_16.Goals as goal

pub put_hex_8-next-requires : goal.put_hex_8-next-requires
put_hex_8-next-requires c = first_room _ _ (digits_twice 16 8 c.args.v refl) c.requires

pub put_hex_8-requires : goal.put_hex_8-requires
put_hex_8-requires c =
    rest_room _ _ (digits_twice 16 8 c.args.v refl) c.requires c.put_hex_8-next.ensures

pub returns : goal.returns
returns c =
    printed_parts _ _ (digits_twice 16 8 c.args.v refl) c.requires c.put_hex_8-next.ensures c.put_hex_8.ensures
