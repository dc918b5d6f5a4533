-- `groove_vectors::print_draws` meets its contract. Assumes nothing.
use Rattle.std.proofs.Common.{rules}
use Rattle.programs.proofs.Grown.{grows_then}
use Rattle.groove_vectors.proofs.print_draws.Goals as goal

pub returns : goal.returns
returns g c = grows_then _ _ _ c.print_f32.ensures c.print_f32-2.ensures
