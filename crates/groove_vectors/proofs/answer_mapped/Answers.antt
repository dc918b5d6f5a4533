-- `groove_vectors::answer_mapped` meets its contract. Assumes nothing.
use Rattle.std.proofs.Common.{rules}
use Rattle.programs.proofs.Grown.{grows_then}
use Rattle.groove_vectors.proofs.answer_mapped.Goals as goal

pub returns-in_err-print_u64-2 : goal.returns-in_err-print_u64-2
returns-in_err-print_u64-2 g c = grows_then _ _ _ c.print_u64.ensures.grows c.print_u64-2.ensures.grows

pub returns-in_err-print_f32 : goal.returns-in_err-print_f32
returns-in_err-print_f32 g c = grows_then _ _ _ (grows_then _ _ _ c.print_u64.ensures.grows c.print_u64-2.ensures.grows) c.print_f32.ensures

pub returns-in_err-print_u64-3 : goal.returns-in_err-print_u64-3
returns-in_err-print_u64-3 g c =
    let gain = grows_then _ _ _ (grows_then _ _ _ c.print_u64.ensures.grows c.print_u64-2.ensures.grows) c.print_f32.ensures in
    grows_then _ _ _ gain c.print_u64-3.ensures.grows

pub returns : goal.returns
returns g c =
    let gain = grows_then _ _ _ (grows_then _ _ _ c.print_u64.ensures.grows c.print_u64-2.ensures.grows) c.print_f32.ensures in
    grows_then _ _ _ (grows_then _ _ _ gain c.print_u64-3.ensures.grows) c.print_u64-4.ensures.grows
