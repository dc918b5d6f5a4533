-- `voice_epiano::tine_turn` meets its contract. Assumes nothing.
use Rattle.std.proofs.Common.{refl}
use Rattle.voice_epiano.proofs.tine_turn.Goals as goal

pub returns : goal.returns
returns c = refl
