-- `remainder::parts::significand` meets its contract. Assumes nothing.
use borrow.Author.Rules.{rules}
use mathlib.Core.Path.{sym}
use Rattle.remainder.proofs.Patterns.{significand_low, significand_mid}
use Rattle.remainder.proofs.parts.significand.Goals as goal

pub returns-then-pattern-lt8388608 : goal.returns-then-pattern-lt8388608
returns-then-pattern-lt8388608 c = sym (significand_low c.args.pattern c.if-pattern-lt8388608.true)

pub returns : goal.returns
returns c = sym (significand_mid c.args.pattern c.if-pattern-lt8388608.false)
