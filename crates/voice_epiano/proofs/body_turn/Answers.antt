-- `voice_epiano::body_turn` meets its contract. Assumes nothing.
use Rattle.std.proofs.Common.{refl}
use Rattle.voice_epiano.proofs.body_turn.Goals as goal

pub returns : goal.returns
returns c = refl
