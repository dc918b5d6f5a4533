-- `remainder::rem::rem_shifted` meets its contract. The invariant: the remainder so far, shifted by the places left, is the remainder of all. Assumes nothing.
use native.Mathlib.Nat.{le_of_lt}
use native.Mathlib.Omega.{arith}
use Rattle.remainder.proofs.Shifted.{Partly, at_first, stepped, at_last}
use Rattle.remainder.proofs.rem.rem_shifted.Goals as goal

pub loop-left-init : goal.loop-left-init
loop-left-init c = at_first c.args.a c.args.shift c.args.q c.requires.0 c.requires.1

pub loop-left-preserved : goal.loop-left-preserved
loop-left-preserved c =
    stepped c.args.a c.args.shift c.args.q c.requires.0 c.requires.1 c.loop-left.r c.loop-left.left c.loop-left-test.true c.loop-left.invariant

pub returns : goal.returns
returns c =
    at_last c.args.a c.args.shift c.args.q c.requires.0 c.requires.1 c.loop-left.r c.loop-left.left c.loop-left-test.false c.loop-left.invariant

pub nonzero_rem-r : goal.nonzero_rem-r
nonzero_rem-r c = c.requires.0

pub nonzero_rem-r-in-loop-left : goal.nonzero_rem-r-in-loop-left
nonzero_rem-r-in-loop-left c = c.requires.0

pub overflow_sub-left : goal.overflow_sub-left
overflow_sub-left c = le_of_lt c.loop-left-test.true

pub nonzero_rem-result : goal.nonzero_rem-result
nonzero_rem-result c = c.requires.0
