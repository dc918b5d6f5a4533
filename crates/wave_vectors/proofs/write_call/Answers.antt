-- `wave_vectors::write_call` meets its contract. Assumes nothing.
use Rattle.std.proofs.Common.{rules}
use Rattle.programs.proofs.Grown.{grows_then}
use Rattle.wave_vectors.proofs.write_call.Goals as goal

pub returns-in_err-print_i64 : goal.returns-in_err-print_i64
returns-in_err-print_i64 g c = grows_then _ _ _ c.print_text.ensures.grows c.print_i64.ensures

pub returns-in_err-print_bytes : goal.returns-in_err-print_bytes
returns-in_err-print_bytes g c = grows_then _ _ _ (grows_then _ _ _ c.print_text.ensures.grows c.print_i64.ensures) c.print_bytes.ensures

pub returns : goal.returns
returns g c =
    let answer = grows_then _ _ _ c.print_text.ensures.grows c.print_i64.ensures in
    grows_then _ _ _ (grows_then _ _ _ answer c.print_bytes.ensures) c.print_text-2.ensures.grows
