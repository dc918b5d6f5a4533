-- `groove::mapped::frame_at` meets its contract. Assumes nothing.
use Rattle.groove.specs.Mapped.{frame_of}
use Rattle.std.proofs.Common.{rules}
use Rattle.groove.proofs.mapped.frame_at.Goals as goal

pub returns : goal.returns
unfolding frame_of
returns c = rw (c.f64_to_usize.ensures, c.max_f64.ensures, c.round_f64.ensures)
