-- `score_vectors::print_outcome` meets its contract. Assumes nothing.
use Rattle.programs.proofs.Grown.{grows_then}
use Rattle.score_vectors.proofs.print_outcome.Goals as goal

pub returns-in_err-print_u64-in-Ok-2 : goal.returns-in_err-print_u64-in-Ok-2
returns-in_err-print_u64-in-Ok-2 g c = grows_then _ _ _ c.print_u64.ensures.grows c.print_u64-in-Ok.ensures.grows

pub returns-in_err-print_u64-in-Err-2 : goal.returns-in_err-print_u64-in-Err-2
returns-in_err-print_u64-in-Err-2 g c = grows_then _ _ _ c.print_u64-in-Err.ensures.grows c.print_u64-in-Err-2.ensures.grows

pub returns-in_ok-print_u64-in-Ok-2 : goal.returns-in_ok-print_u64-in-Ok-2
returns-in_ok-print_u64-in-Ok-2 g c = grows_then _ _ _ c.print_u64.ensures.grows c.print_u64-in-Ok.ensures.grows

pub returns-in_ok-print_u64-in-Err-2 : goal.returns-in_ok-print_u64-in-Err-2
returns-in_ok-print_u64-in-Err-2 g c = grows_then _ _ _ c.print_u64-in-Err.ensures.grows c.print_u64-in-Err-2.ensures.grows
