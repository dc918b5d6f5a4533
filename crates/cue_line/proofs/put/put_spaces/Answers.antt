-- `cue_line::put::put_spaces` meets its contract. Assumes nothing.
use Rattle.cue_line.proofs.Putting.{spaced}
use Rattle.cue_line.proofs.put.put_spaces.Goals as goal

pub returns : goal.returns
returns c = spaced _ _ _ c.requires (c.fill.ensures.after (λ y e. e))
