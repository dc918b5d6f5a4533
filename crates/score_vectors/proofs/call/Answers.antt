-- `score_vectors::call` meets its contract. Assumes nothing.
use Rattle.programs.proofs.Grown.{grows_then}
use Rattle.score_vectors.proofs.call.Goals as goal

pub returns-in_err-print_u64 : goal.returns-in_err-print_u64
returns-in_err-print_u64 g c = grows_then _ _ _ c.print_outcome.ensures c.print_u64.ensures.grows

pub returns-in_err-print_counts : goal.returns-in_err-print_counts
returns-in_err-print_counts g c = grows_then _ _ _ (grows_then _ _ _ c.print_outcome.ensures c.print_u64.ensures.grows) c.print_counts.ensures

pub returns-in_err-print_values : goal.returns-in_err-print_values
returns-in_err-print_values g c =
    let state = grows_then _ _ _ c.print_outcome.ensures c.print_u64.ensures.grows in
    let counts = grows_then _ _ _ state c.print_counts.ensures in
    grows_then _ _ _ counts c.print_values.ensures

pub returns : goal.returns
returns g c =
    let state = grows_then _ _ _ c.print_outcome.ensures c.print_u64.ensures.grows in
    let counts = grows_then _ _ _ state c.print_counts.ensures in
    grows_then _ _ _ counts c.print_values.ensures
