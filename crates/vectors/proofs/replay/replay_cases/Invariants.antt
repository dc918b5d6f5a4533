-- Each case leaves less; what the writer held stays.
use Rattle.std.proofs.Common.{length}
use Rattle.programs.specs.Streams.{Grows}
use Rattle.vectors.proofs.replay.replay_cases.Given as goal

abbrev pub invariant-loop-line : goal.invariant-loop-line
invariant-loop-line g l = goal.F-IsAlwaysCallable g l.each × Grows (g.W.Write.contents l.initial.writer) (g.W.Write.contents l.writer)

abbrev pub decreases-loop-line : goal.decreases-loop-line
decreases-loop-line g l = length l.rest
