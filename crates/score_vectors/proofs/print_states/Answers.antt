-- `score_vectors::print_states` meets its contract. Assumes nothing.
use Rattle.std.proofs.Common.{rules}
use Rattle.programs.proofs.Grown.{grows_then}
use Rattle.score_vectors.proofs.print_states.Goals as goal

pub returns-in_err-print_u64 : goal.returns-in_err-print_u64
returns-in_err-print_u64 g c = grows_then _ _ _ c.loop-k.invariant.1 c.print_u64.ensures.grows

pub loop-k-preserved : goal.loop-k-preserved
loop-k-preserved g c = (search rules, grows_then _ _ _ c.loop-k.invariant.1 c.print_u64.ensures.grows)
