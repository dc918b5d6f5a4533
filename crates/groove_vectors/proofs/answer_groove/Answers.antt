-- `groove_vectors::answer_groove` meets its contract. Assumes nothing.
use Rattle.std.proofs.Common.{rules}
use Rattle.programs.proofs.Grown.{grows_then}
use Rattle.groove_vectors.proofs.answer_groove.Goals as goal

pub returns : goal.returns
returns g c = grows_then _ _ _ c.print_place.ensures c.print_draws.ensures
