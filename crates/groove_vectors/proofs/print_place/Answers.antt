-- `groove_vectors::print_place` meets its contract. Assumes nothing.
use Rattle.std.proofs.Common.{rules}
use Rattle.programs.proofs.Grown.{grows_then}
use Rattle.groove_vectors.proofs.print_place.Goals as goal

pub returns-in_err-print_f32 : goal.returns-in_err-print_f32
returns-in_err-print_f32 g c = grows_then _ _ _ c.print_u64.ensures.grows c.print_f32.ensures

pub returns-in_err-print_u64-2 : goal.returns-in_err-print_u64-2
returns-in_err-print_u64-2 g c = grows_then _ _ _ (grows_then _ _ _ c.print_u64.ensures.grows c.print_f32.ensures) c.print_u64-2.ensures.grows

pub returns : goal.returns
returns g c =
    let length = grows_then _ _ _ (grows_then _ _ _ c.print_u64.ensures.grows c.print_f32.ensures) c.print_u64-2.ensures.grows in
    grows_then _ _ _ length c.print_u64-3.ensures.grows
