-- The loops of `envelope::stage_end`.
use Rattle.std.proofs.Common.{◌-◌, arith, rules}
use Rattle.envelope.proofs.Parting.{Searched, searched_none, searched_up, searched_down, searched_all}
use Rattle.envelope.proofs.stage_end.Given as goal

abbrev pub invariant-loop-low : goal.invariant-loop-low
invariant-loop-low l = Searched l.rate l.end l.from l.n l.low l.high

abbrev pub decreases-loop-low : goal.decreases-loop-low
decreases-loop-low l = l.high - l.low
