use Rattle.std.proofs.Common.{mod-lt, arith}
use Rattle.beat.proofs.Euclid.{steps_none, steps_more, steps_end}
use Rattle.beat.proofs.gcd.gcd.Goals as goal

pub loop-b-init : goal.loop-b-init
loop-b-init c = steps_none

pub loop-b-smaller : goal.loop-b-smaller
loop-b-smaller c = mod-lt _ (omega arith)

pub loop-b-preserved : goal.loop-b-preserved
loop-b-preserved c = steps_more c.loop-b.invariant

pub returns : goal.returns
returns c = steps_end c.loop-b.invariant (omega arith)
