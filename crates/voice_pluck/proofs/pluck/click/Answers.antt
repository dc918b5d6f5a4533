-- `voice_pluck::pluck::click` meets its contract. Assumes nothing.
use Rattle.std.proofs.Common.{refl}
use Rattle.laws.proofs.If.{if_true, if_false}
use Rattle.voice_pluck.specs.Pluck.{picked}
use Rattle.voice_pluck.proofs.pluck.click.Goals as goal

pub returns-then-t : goal.returns-then-t
unfolding picked
returns-then-t c = if_true _ c.if-t.true refl

pub returns : goal.returns
unfolding picked
returns c = if_false _ c.if-t.false refl
