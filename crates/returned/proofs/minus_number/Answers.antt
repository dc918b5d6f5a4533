-- `returned::minus_number` meets its contract. Assumes nothing.
use native.Mathlib.Omega.{arith}
use Rattle.returned.proofs.Minus.{minus_fits, minus_read}
use borrow.Author.Rules.{rules}
use Rattle.returned.proofs.minus_number.Goals as goal

pub overflow_sub-result : goal.overflow_sub-result
overflow_sub-result c = minus_fits c.args.number (omega arith)

pub returns : goal.returns
returns c = minus_read c.args.number (omega arith)
