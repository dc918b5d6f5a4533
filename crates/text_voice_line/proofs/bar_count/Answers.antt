-- `text_voice_line::bar_count` meets its contract. Assumes nothing.
use mathlib.Core.Path.{refl}
use Rattle.laws.proofs.If.{if_true, if_false}
use Rattle.text_voice_line.specs.Voice.{bar_count}
use Rattle.text_voice_line.proofs.bar_count.Goals as goal

pub returns-then-ended : goal.returns-then-ended
unfolding bar_count
returns-then-ended c = if_true _ c.if-ended.true refl

pub returns : goal.returns
unfolding bar_count
returns c = if_false _ c.if-ended.false refl
