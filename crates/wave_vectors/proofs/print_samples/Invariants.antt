-- `print_samples` ends; what the writer held stays.
use Rattle.std.proofs.Common.{◌-◌, length}
use Rattle.programs.specs.Streams.{Grows}
use Rattle.wave_vectors.proofs.print_samples.Given as goal

abbrev pub invariant-loop-sample : goal.invariant-loop-sample
invariant-loop-sample g l = Grows (g.W.Write.contents l.initial.writer) (g.W.Write.contents l.writer)
