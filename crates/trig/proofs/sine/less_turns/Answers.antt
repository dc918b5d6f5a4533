-- `trig::sine::less_turns` meets its contract. Assumes nothing.
use Rattle.std.proofs.Common.{refl}
use Rattle.trig.specs.Trig.{less_turns}
use Rattle.trig.proofs.sine.less_turns.Goals as goal

pub returns : goal.returns
unfolding less_turns
returns c = refl
