-- `groove::timing::step_dur` meets its contract. Assumes nothing.
use Rattle.std.proofs.Common.{rules}
use Rattle.groove.specs.Timing.{step_dur_of}
use Rattle.groove.proofs.timing.step_dur.Goals as goal

pub returns : goal.returns
unfolding step_dur_of
returns c = rw (c.nearest_u32_to_f32.ensures, c.nearest_u32_to_f32-srf.ensures)
