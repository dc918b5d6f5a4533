-- `envelope::share` meets its contract. Assumes nothing.
use Rattle.std.proofs.Common.{refl}
use Rattle.laws.proofs.If.{if_true, if_false}
use Rattle.envelope.specs.Envelope.{share_of}
use Rattle.envelope.proofs.share.Goals as goal

pub returns-then-stage : goal.returns-then-stage
unfolding share_of
returns-then-stage c = if_true _ c.if-stage.true refl

pub returns : goal.returns
unfolding share_of
returns c = if_false _ c.if-stage.false refl
