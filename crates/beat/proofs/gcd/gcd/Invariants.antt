-- The loops of `beat::gcd::gcd`.
use Rattle.beat.proofs.Euclid.{Steps}
use Rattle.beat.proofs.gcd.gcd.Given as goal

abbrev pub invariant-loop-b : goal.invariant-loop-b
invariant-loop-b l = Steps l.x l.y l.a l.b

abbrev pub decreases-loop-b : goal.decreases-loop-b
decreases-loop-b l = l.b
