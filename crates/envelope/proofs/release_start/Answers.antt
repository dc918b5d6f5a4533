-- `envelope::release_start` meets its contract. Assumes nothing.
use Rattle.envelope.specs.Envelope.{release_start}
use Rattle.std.proofs.Common.{rules}
use Rattle.envelope.proofs.release_start.Goals as goal

pub returns : goal.returns
unfolding release_start
returns c = rw (c.max_f32.ensures, c.frame_time.ensures, c.nearest_u32_to_f32-srf.ensures)
