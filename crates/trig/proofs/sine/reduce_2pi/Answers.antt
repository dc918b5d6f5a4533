-- `trig::sine::reduce_2pi` meets its contract. Assumes nothing.
use Rattle.std.proofs.Common.{rules}
use Rattle.trig.specs.Trig.{reduce2pi}
use Rattle.trig.proofs.sine.reduce_2pi.Goals as goal

pub returns : goal.returns
unfolding reduce2pi
returns c = c.less_nearest.ensures
