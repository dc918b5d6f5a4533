-- `mix::stages::gained` meets its contract. Assumes nothing.
use Rattle.std.proofs.Common.{refl}
use Rattle.mix.proofs.stages.gained.Goals as goal

pub returns : goal.returns
returns c = refl
