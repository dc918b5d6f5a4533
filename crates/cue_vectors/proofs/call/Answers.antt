-- `cue_vectors::call` meets its contract. Assumes nothing.
use Rattle.std.proofs.Common.{rules}
use Rattle.programs.proofs.Grown.{grows_then}
use Rattle.cue_vectors.proofs.call.Goals as goal

pub returns-in_err-print_i64 : goal.returns-in_err-print_i64
returns-in_err-print_i64 g c = grows_then _ _ _ c.print_text.ensures.grows c.print_i64.ensures

pub returns-in_err-print_text-2 : goal.returns-in_err-print_text-2
returns-in_err-print_text-2 g c = grows_then _ _ _ (grows_then _ _ _ c.print_text.ensures.grows c.print_i64.ensures) c.print_text-2.ensures.grows

pub returns-in_err-print_text-3 : goal.returns-in_err-print_text-3
returns-in_err-print_text-3 g c =
    let line = grows_then _ _ _ (grows_then _ _ _ c.print_text.ensures.grows c.print_i64.ensures) c.print_text-2.ensures.grows in
    grows_then _ _ _ line c.print_text-3.ensures.grows

pub returns : goal.returns
returns g c =
    let line = grows_then _ _ _ (grows_then _ _ _ c.print_text.ensures.grows c.print_i64.ensures) c.print_text-2.ensures.grows in
    grows_then _ _ _ (grows_then _ _ _ line c.print_text-3.ensures.grows) c.print_text-4.ensures.grows
