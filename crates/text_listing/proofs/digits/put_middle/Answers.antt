-- `text_listing::digits::put_middle` meets its contract. Assumes nothing.
use mathlib.Core.Path.{refl}
use native.Mathlib.Omega.{arith}
use Rattle.text_listing.proofs.Put.{first_room, rest_room, printed_parts}
use Rattle.text_listing.proofs.Numbers.{decimal_split}
use borrow.Author.Rules.{rules}
use Rattle.text_listing.proofs.digits.put_middle.Goals as goal

pub put_short-next-requires : goal.put_short-next-requires
put_short-next-requires c =
    record {
      v_bound = omega (arith, c.requires.v_bound);
      room = first_room _ _ (decimal_split 4 c.args.v refl c.if-v-lt10000.false) c.requires.room;
    }

pub put_decimal_4-requires : goal.put_decimal_4-requires
put_decimal_4-requires c =
    rest_room _ _ (decimal_split 4 c.args.v refl c.if-v-lt10000.false) c.requires.room c.put_short-next.ensures

pub returns : goal.returns
returns c =
    printed_parts _ _ (decimal_split 4 c.args.v refl c.if-v-lt10000.false) c.requires.room c.put_short-next.ensures c.put_decimal_4.ensures
