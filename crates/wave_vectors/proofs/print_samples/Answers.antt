-- `wave_vectors::print_samples` meets its contract. Assumes nothing.
use Rattle.std.proofs.Common.{rules}
use Rattle.programs.proofs.Grown.{grows_then}
use Rattle.wave_vectors.proofs.print_samples.Goals as goal

pub returns-in_err-print_u64 : goal.returns-in_err-print_u64
returns-in_err-print_u64 g c = grows_then _ _ _ c.loop-sample.invariant c.print_u64.ensures.grows

pub loop-sample-preserved : goal.loop-sample-preserved
loop-sample-preserved g c = grows_then _ _ _ c.loop-sample.invariant c.print_u64.ensures.grows
