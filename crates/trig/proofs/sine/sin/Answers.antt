-- `trig::sine::sin` meets its contract. Assumes nothing.
use Rattle.std.proofs.Common.{rules}
use Rattle.trig.specs.Trig.{sin64}
use Rattle.trig.proofs.sine.sin.Goals as goal

pub returns : goal.returns
unfolding sin64
returns c = rw (c.sin_reduced.ensures, c.reduce_2pi.ensures)
