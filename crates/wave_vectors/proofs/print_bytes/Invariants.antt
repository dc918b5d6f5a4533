-- `print_bytes` ends; what the writer held stays.
use Rattle.std.proofs.Common.{◌-◌, length}
use Rattle.programs.specs.Streams.{Grows}
use Rattle.wave_vectors.proofs.print_bytes.Given as goal

abbrev pub invariant-loop-byte : goal.invariant-loop-byte
invariant-loop-byte g l = Grows (g.W.Write.contents l.initial.writer) (g.W.Write.contents l.writer)
