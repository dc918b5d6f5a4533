-- `wave_vectors::print_bytes` meets its contract. Assumes nothing.
use Rattle.std.proofs.Common.{rules}
use Rattle.programs.proofs.Grown.{grows_then}
use Rattle.wave_vectors.proofs.print_bytes.Goals as goal

pub returns-in_err-print_byte : goal.returns-in_err-print_byte
returns-in_err-print_byte g c = grows_then _ _ _ c.loop-byte.invariant c.print_byte.ensures

pub loop-byte-preserved : goal.loop-byte-preserved
loop-byte-preserved g c = grows_then _ _ _ c.loop-byte.invariant c.print_byte.ensures
