-- `frame_block::decay::decay_by` meets its contract. Assumes nothing.
use Rattle.frame_block.proofs.decay.decay_by.Goals as goal

pub returns : goal.returns
returns c = rw c.frame_time.ensures
