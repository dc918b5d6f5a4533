-- `frame_block::part::level` meets its contract. Assumes nothing.
use Rattle.frame_block.proofs.part.level.Goals as goal

pub returns : goal.returns
returns c = rw (c.exp.ensures, c.decay_by.ensures)
