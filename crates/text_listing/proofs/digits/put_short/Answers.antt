-- `text_listing::digits::put_short` meets its contract. Assumes nothing.
use mathlib.Core.Path.{refl}
use native.Mathlib.Omega.{arith}
use Rattle.text_listing.proofs.Put.{room_as, printed_as, first_room, rest_room, printed_parts}
use Rattle.text_listing.proofs.Numbers.{decimal_last, decimal_whole, decimal_full}
use borrow.Author.Rules.{rules}
use Rattle.text_listing.proofs.digits.put_short.Goals as goal

pub put_byte-requires : goal.put_byte-requires
put_byte-requires c = rw c.decimal_digit.ensures (room_as (decimal_last c.if-v-lt10.true) c.requires.room)

pub returns-then-v-lt10 : goal.returns-then-v-lt10
returns-then-v-lt10 c = printed_as (decimal_last c.if-v-lt10.true) (rw c.decimal_digit.ensures at c.put_byte.ensures)

pub put_decimal_2-requires : goal.put_decimal_2-requires
put_decimal_2-requires c = room_as (decimal_full 1 c.args.v refl c.if-v-lt10.false (omega arith)) c.requires.room

pub returns-then-v-lt100 : goal.returns-then-v-lt100
returns-then-v-lt100 c =
    printed_as (decimal_full 1 c.args.v refl c.if-v-lt10.false (omega arith)) c.put_decimal_2.ensures

pub put_byte-next-requires : goal.put_byte-next-requires
put_byte-next-requires c =
    rw c.decimal_digit-then-v-lt1000.ensures (first_room _ _ (decimal_whole 2 c.args.v refl c.if-v-lt100.false (omega arith)) c.requires.room)

pub put_decimal_2-requires-then-v-lt1000 : goal.put_decimal_2-requires-then-v-lt1000
put_decimal_2-requires-then-v-lt1000 c =
    rest_room _ _ (decimal_whole 2 c.args.v refl c.if-v-lt100.false (omega arith)) c.requires.room (rw c.decimal_digit-then-v-lt1000.ensures at c.put_byte-next.ensures)

pub returns-then-v-lt1000 : goal.returns-then-v-lt1000
returns-then-v-lt1000 c =
    printed_parts _ _ (decimal_whole 2 c.args.v refl c.if-v-lt100.false (omega arith)) c.requires.room
    (rw c.decimal_digit-then-v-lt1000.ensures at c.put_byte-next.ensures) c.put_decimal_2-then-v-lt1000.ensures

pub put_decimal_4-requires : goal.put_decimal_4-requires
put_decimal_4-requires c =
    room_as (decimal_full 3 c.args.v refl c.if-v-lt1000.false (omega (arith, c.requires.v_bound))) c.requires.room

pub returns : goal.returns
returns c =
    printed_as (decimal_full 3 c.args.v refl c.if-v-lt1000.false (omega (arith, c.requires.v_bound))) c.put_decimal_4.ensures
