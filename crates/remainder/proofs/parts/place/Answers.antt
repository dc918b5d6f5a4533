-- `remainder::parts::place` meets its contract. Assumes nothing.
use borrow.Author.Rules.{rules}
use mathlib.Core.Path.{refl}
use Rattle.remainder.specs.Parts.{place_of}
use Rattle.remainder.proofs.Patterns.{place_low}
use Rattle.remainder.proofs.parts.place.Goals as goal

pub returns-then-pattern-lt8388608 : goal.returns-then-pattern-lt8388608
returns-then-pattern-lt8388608 c = place_low c.args.pattern c.if-pattern-lt8388608.true

pub returns : goal.returns
unfolding place_of
returns c = refl
