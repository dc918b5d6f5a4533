-- `text_listing::digits::put_decimal_8` meets its contract. Assumes nothing.
use Rattle.text_listing.proofs.Put.{first_room, rest_room, printed_parts}
use mathlib.Core.Path.{refl}
use Rattle.text_listing.proofs.Numbers.{digits_twice}
use borrow.Author.Rules.{rules}
use Rattle.text_listing.proofs.digits.put_decimal_8.Goals as goal

pub put_decimal_4-next-requires : goal.put_decimal_4-next-requires
put_decimal_4-next-requires c = first_room _ _ (digits_twice 10 4 c.args.v refl) c.requires

pub put_decimal_4-requires : goal.put_decimal_4-requires
put_decimal_4-requires c =
    rest_room _ _ (digits_twice 10 4 c.args.v refl) c.requires c.put_decimal_4-next.ensures

pub returns : goal.returns
returns c =
    printed_parts _ _ (digits_twice 10 4 c.args.v refl) c.requires c.put_decimal_4-next.ensures c.put_decimal_4.ensures
