-- `text_listing::lengths::short_length` meets its contract. Assumes nothing.
use mathlib.Core.Path.{refl}
use native.Mathlib.Omega.{arith}
use Rattle.text_listing.proofs.Numbers.{length_one, length_whole}
use Rattle.text_listing.proofs.lengths.short_length.Goals as goal

pub returns-then-v-lt10 : goal.returns-then-v-lt10
returns-then-v-lt10 c = length_one c.args.v c.if-v-lt10.true

pub returns-then-v-lt100 : goal.returns-then-v-lt100
returns-then-v-lt100 c = length_whole 1 c.args.v refl c.if-v-lt10.false (omega arith)

pub returns-then-v-lt1000 : goal.returns-then-v-lt1000
returns-then-v-lt1000 c = length_whole 2 c.args.v refl c.if-v-lt100.false (omega arith)

pub returns : goal.returns
returns c = length_whole 3 c.args.v refl c.if-v-lt1000.false (omega (arith, c.requires))
