-- `trig::sine::cos` meets its contract. Assumes nothing.
use Rattle.std.proofs.Common.{rules}
use Rattle.trig.specs.Trig.{cos64}
use Rattle.trig.proofs.sine.cos.Goals as goal

pub returns : goal.returns
unfolding cos64
returns c = rw c.sin.ensures
