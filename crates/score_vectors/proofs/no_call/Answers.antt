-- `score_vectors::no_call` meets its contract. Assumes nothing.
use Rattle.programs.proofs.Grown.{grows_then}
use Rattle.score_vectors.proofs.no_call.Goals as goal

pub returns-in_err-print_u64-2 : goal.returns-in_err-print_u64-2
returns-in_err-print_u64-2 g c = grows_then _ _ _ c.print_u64.ensures.grows c.print_u64-2.ensures.grows

pub returns-in_err-print_u64-3 : goal.returns-in_err-print_u64-3
returns-in_err-print_u64-3 g c = grows_then _ _ _ (grows_then _ _ _ c.print_u64.ensures.grows c.print_u64-2.ensures.grows) c.print_u64-3.ensures.grows

pub returns-in_err-print_counts : goal.returns-in_err-print_counts
returns-in_err-print_counts g c =
    let draws = grows_then _ _ _ c.print_u64.ensures.grows c.print_u64-2.ensures.grows in
    let state = grows_then _ _ _ draws c.print_u64-3.ensures.grows in
    grows_then _ _ _ state c.print_counts.ensures

pub returns-in_err-print_values : goal.returns-in_err-print_values
returns-in_err-print_values g c =
    let draws = grows_then _ _ _ c.print_u64.ensures.grows c.print_u64-2.ensures.grows in
    let state = grows_then _ _ _ draws c.print_u64-3.ensures.grows in
    let counts = grows_then _ _ _ state c.print_counts.ensures in
    grows_then _ _ _ counts c.print_values.ensures

pub returns : goal.returns
returns g c =
    let draws = grows_then _ _ _ c.print_u64.ensures.grows c.print_u64-2.ensures.grows in
    let state = grows_then _ _ _ draws c.print_u64-3.ensures.grows in
    let counts = grows_then _ _ _ state c.print_counts.ensures in
    grows_then _ _ _ counts c.print_values.ensures
