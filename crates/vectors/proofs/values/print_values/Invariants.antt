-- What the writer held stays.
use Rattle.programs.specs.Streams.{Grows}
use Rattle.vectors.proofs.values.print_values.Given as goal

abbrev pub invariant-loop-x : goal.invariant-loop-x
invariant-loop-x g l = Grows (g.W.Write.contents l.initial.writer) (g.W.Write.contents l.writer)
