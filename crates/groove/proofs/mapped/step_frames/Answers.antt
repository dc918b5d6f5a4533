-- `groove::mapped::step_frames` meets its contract. Assumes nothing.
use Rattle.groove.specs.Mapped.{step_frames_of}
use Rattle.std.proofs.Common.{rules}
use Rattle.groove.proofs.mapped.step_frames.Goals as goal

pub returns : goal.returns
unfolding step_frames_of
returns c = rw (c.widened-2.ensures, c.widened.ensures)
