-- `voice_pluck::pluck::at_rest` meets its contract. Assumes nothing.
use Rattle.std.proofs.Common.{refl}
use Rattle.voice_pluck.specs.Pluck.{at_rest}
use Rattle.voice_pluck.proofs.pluck.at_rest.Goals as goal

pub returns : goal.returns
unfolding at_rest
returns c = refl
