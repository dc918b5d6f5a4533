-- `text_listing::lengths::decimal_length` meets its contract. Assumes nothing.
use mathlib.Core.Path.{refl}
use Prim.Native.Nat.{◌/◌}
use native.Mathlib.Omega.{arith}
use Rattle.text_listing.proofs.Numbers.{length_split, decimal_length}
use borrow.Author.Rules.{rules}
use Rattle.text_listing.proofs.lengths.decimal_length.Goals as goal

pub returns-then-v-lt100000000 : goal.returns-then-v-lt100000000
returns-then-v-lt100000000 c = c.middle_length.ensures

pub overflow_add-result : goal.overflow_add-result
overflow_add-result c = record { fits = omega (arith, c.middle_length-then-v-lt10000000000000000.ensures, decimal_length 7 (c.args.v / 100000000) (omega arith)) }

pub returns-then-v-lt10000000000000000 : goal.returns-then-v-lt10000000000000000
returns-then-v-lt10000000000000000 c = rw c.middle_length-then-v-lt10000000000000000.ensures (length_split 8 c.args.v refl c.if-v-lt100000000.false)

pub overflow_add-result-2 : goal.overflow_add-result-2
overflow_add-result-2 c = record { fits = omega (arith, c.short_length.ensures, decimal_length 3 (c.args.v / 10000000000000000) (omega arith)) }

pub returns : goal.returns
returns c = rw c.short_length.ensures (length_split 16 c.args.v refl c.if-v-lt10000000000000000.false)
