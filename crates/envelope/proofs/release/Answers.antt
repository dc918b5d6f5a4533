-- `envelope::release` meets its contract. Assumes nothing.
use Rattle.std.proofs.Common.{refl, rules}
use Rattle.laws.proofs.If.{if_true, if_false}
use Rattle.envelope.specs.Stages.{release_of}
use Rattle.envelope.proofs.release.Goals as goal

pub returns-then-env : goal.returns-then-env
unfolding release_of
returns-then-env c = if_true _ c.if-env.true (rw c.clamp_f32.ensures)

pub returns : goal.returns
unfolding release_of
returns c = if_false _ c.if-env.false refl
