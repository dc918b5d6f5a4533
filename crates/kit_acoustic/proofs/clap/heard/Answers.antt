-- `kit_acoustic::clap::heard` meets its contract. Assumes nothing.
use mathlib.Core.Path.{refl}
use Rattle.laws.proofs.If.{if_true, if_false}
use Rattle.kit_acoustic.specs.Block.{heard_of}
use Rattle.kit_acoustic.proofs.clap.heard.Goals as goal

pub returns-then-t-d : goal.returns-then-t-d
unfolding heard_of
returns-then-t-d c = if_true _ c.if-t-d.true refl

pub returns-else-t-d : goal.returns-else-t-d
unfolding heard_of
returns-else-t-d c = if_false _ c.if-t-d.false refl
