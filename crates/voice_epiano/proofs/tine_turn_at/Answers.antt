-- `voice_epiano::tine_turn_at` meets its contract. Assumes nothing.
use Rattle.voice_epiano.specs.Block.{tine_turn_at}
use Rattle.voice_epiano.proofs.tine_turn_at.Goals as goal

pub returns : goal.returns
unfolding tine_turn_at
returns c = c.tine_turn.ensures
