-- The loops of `text_digits::decimal`.
use borrow.Author.Rules.{rules}
use Prim.Native.Nat.{◌-◌, ◌≤◌}
use mathlib.Core.Path.{◌≡◌, ◌∙◌}
use native.Mathlib.Omega.{arith}
use lib.ListN.{length, drop}
use Rattle.text_digits.specs.Read.{decimal, digits_from, fitting}
use Rattle.text_digits.proofs.Reading.{decimal_none, decimal_zero, decimal_bad, decimal_start, digits_end, digits_stop, digits_more, digits_over}
use Rattle.text_digits.proofs.decimal.Given as goal

abbrev pub invariant-loop-at : goal.invariant-loop-at
invariant-loop-at l = (l.v ≤ l.most) × (fitting l.most (digits_from l.v (drop l.at l.s)) ≡ decimal l.most (drop l.start l.s))
