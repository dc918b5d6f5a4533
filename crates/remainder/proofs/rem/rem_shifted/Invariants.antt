-- The loops of `remainder::rem::rem_shifted`.
use native.Mathlib.Nat.{le_of_lt}
use native.Mathlib.Omega.{arith}
use Rattle.remainder.proofs.Shifted.{Partly, at_first, stepped, at_last}
use Rattle.remainder.proofs.rem.rem_shifted.Given as goal

abbrev pub invariant-loop-left : goal.invariant-loop-left
invariant-loop-left l = Partly l.a l.shift l.q l.r l.left

abbrev pub decreases-loop-left : goal.decreases-loop-left
decreases-loop-left l = l.left
