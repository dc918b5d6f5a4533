-- `voice_epiano::body_turn_at` meets its contract. Assumes nothing.
use Rattle.voice_epiano.specs.Block.{body_turn_at}
use Rattle.voice_epiano.proofs.body_turn_at.Goals as goal

pub returns : goal.returns
unfolding body_turn_at
returns c = c.body_turn.ensures
