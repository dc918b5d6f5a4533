-- `wave_vectors::read_call` meets its contract. Assumes nothing.
use Rattle.std.proofs.Common.{rules}
use Rattle.programs.proofs.Grown.{grows_then}
use Rattle.wave_vectors.proofs.read_call.Goals as goal

pub returns-in_err-print_i64 : goal.returns-in_err-print_i64
returns-in_err-print_i64 g c = grows_then _ _ _ c.print_text.ensures.grows c.print_i64.ensures

pub returns-in_err-print_u64 : goal.returns-in_err-print_u64
returns-in_err-print_u64 g c = grows_then _ _ _ (grows_then _ _ _ c.print_text.ensures.grows c.print_i64.ensures) c.print_u64.ensures.grows

pub returns-in_err-print_samples : goal.returns-in_err-print_samples
returns-in_err-print_samples g c =
    let numbers = grows_then _ _ _ (grows_then _ _ _ c.print_text.ensures.grows c.print_i64.ensures) c.print_u64.ensures.grows in
    grows_then _ _ _ numbers c.print_samples.ensures

pub returns : goal.returns
returns g c =
    let numbers = grows_then _ _ _ (grows_then _ _ _ c.print_text.ensures.grows c.print_i64.ensures) c.print_u64.ensures.grows in
    grows_then _ _ _ (grows_then _ _ _ numbers c.print_samples.ensures) c.print_text-2.ensures.grows
