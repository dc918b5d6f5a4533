-- `kit_electronic::clap::clap_argument` meets its contract: the remainder by what it ensures. Assumes nothing.
use mathlib.Core.Path.{refl}
use Rattle.laws.proofs.If.{if_true, if_false}
use Rattle.kit_electronic.specs.Block.{clap_argument}
use Rattle.kit_electronic.proofs.clap.clap_argument.Goals as goal

pub returns-then-t : goal.returns-then-t
unfolding clap_argument
returns-then-t c = if_true _ c.if-t.true (rw c.rem_f32.ensures)

pub returns : goal.returns
unfolding clap_argument
returns c = if_false _ c.if-t.false refl
