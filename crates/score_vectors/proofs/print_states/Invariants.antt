-- `print_states` ends, and stays within what it reads and fills; what the writer held stays.
use Rattle.std.proofs.Common.{◌-◌, ◌≤◌}
use Rattle.programs.specs.Streams.{Grows}
use Rattle.score_vectors.proofs.print_states.Given as goal

abbrev pub invariant-loop-k : goal.invariant-loop-k
invariant-loop-k g l = (l.k ≤ 8) × Grows (g.W.Write.contents l.initial.writer) (g.W.Write.contents l.writer)
