-- `kit_acoustic::clap::burst` meets its contract: each call by what it ensures. Assumes nothing.
use mathlib.Core.Path.{refl}
use Rattle.laws.proofs.If.{if_true, if_false}
use Rattle.kit_acoustic.specs.Clap.{burst_of}
use Rattle.kit_acoustic.proofs.clap.burst.Goals as goal

pub returns-then-t-d : goal.returns-then-t-d
unfolding burst_of
returns-then-t-d c = if_true _ c.if-t-d.true (rw c.exp.ensures)

pub returns : goal.returns
unfolding burst_of
returns c = if_false _ c.if-t-d.false refl
