-- `text_listing::digits::put_decimal` meets its contract. Assumes nothing.
use mathlib.Core.Path.{refl}
use native.Mathlib.Omega.{arith}
use Rattle.text_listing.proofs.Put.{first_room, rest_room, printed_parts}
use Rattle.text_listing.proofs.Numbers.{decimal_split}
use borrow.Author.Rules.{rules}
use Rattle.text_listing.proofs.digits.put_decimal.Goals as goal

pub put_middle-next-requires : goal.put_middle-next-requires
put_middle-next-requires c =
    record {
      v_bound = omega arith;
      room = first_room _ _ (decimal_split 8 c.args.v refl c.if-v-lt100000000.false) c.requires;
    }

pub put_decimal_8-requires : goal.put_decimal_8-requires
put_decimal_8-requires c =
    rest_room _ _ (decimal_split 8 c.args.v refl c.if-v-lt100000000.false) c.requires c.put_middle-next.ensures

pub returns-then-v-lt10000000000000000 : goal.returns-then-v-lt10000000000000000
returns-then-v-lt10000000000000000 c =
    printed_parts _ _ (decimal_split 8 c.args.v refl c.if-v-lt100000000.false) c.requires c.put_middle-next.ensures c.put_decimal_8.ensures

pub put_short-next-requires : goal.put_short-next-requires
put_short-next-requires c =
    record {
      v_bound = omega arith;
      room = first_room _ _ (decimal_split 16 c.args.v refl c.if-v-lt10000000000000000.false) c.requires;
    }

pub put_decimal_16-requires : goal.put_decimal_16-requires
put_decimal_16-requires c =
    rest_room _ _ (decimal_split 16 c.args.v refl c.if-v-lt10000000000000000.false) c.requires c.put_short-next.ensures

pub returns : goal.returns
returns c =
    printed_parts _ _ (decimal_split 16 c.args.v refl c.if-v-lt10000000000000000.false) c.requires c.put_short-next.ensures c.put_decimal_16.ensures
