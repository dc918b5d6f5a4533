-- `voice_vectors::play` meets its contract. Assumes nothing.
use Rattle.std.proofs.Common.{rules}
use Rattle.programs.proofs.Grown.{grows_then}
use Rattle.voice_vectors.proofs.play.Goals as goal

pub returns : goal.returns
returns g c = grows_then _ _ _ c.print_values.ensures c.print_u64.ensures.grows
