-- `cue_line::put::put_bytes` meets its contract. Assumes nothing.
use Rattle.cue_line.proofs.Putting.{copied}
use Rattle.cue_line.proofs.put.put_bytes.Goals as goal

pub returns : goal.returns
returns c = copied _ _ _ c.copy_from_slice.ensures.after
