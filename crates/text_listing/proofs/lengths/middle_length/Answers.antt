-- `text_listing::lengths::middle_length` meets its contract. Assumes nothing.
use mathlib.Core.Path.{refl}
use Prim.Native.Nat.{◌/◌}
use native.Mathlib.Omega.{arith}
use Rattle.text_listing.proofs.Numbers.{length_split, decimal_length}
use borrow.Author.Rules.{rules}
use Rattle.text_listing.proofs.lengths.middle_length.Goals as goal

pub returns-then-v-lt10000 : goal.returns-then-v-lt10000
returns-then-v-lt10000 c = c.short_length.ensures

pub short_length-requires-2 : goal.short_length-requires-2
short_length-requires-2 c = omega (arith, c.requires)

pub overflow_add-result : goal.overflow_add-result
overflow_add-result c = record { fits = omega (arith, c.short_length-2.ensures, decimal_length 3 (c.args.v / 10000) (omega (arith, c.requires))) }

pub returns : goal.returns
returns c = rw c.short_length-2.ensures (length_split 4 c.args.v refl c.if-v-lt10000.false)
