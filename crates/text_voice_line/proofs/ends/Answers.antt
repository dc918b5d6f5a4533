-- `text_voice_line::ends` meets its contract. Assumes nothing.
use mathlib.Core.Path.{◌∙◌}
use Rattle.text_voice_line.specs.Voice.{ends}
use Rattle.text_voice_line.proofs.Sounds.{placed_read}
use Rattle.text_voice_line.proofs.ends.Goals as goal

pub returns : goal.returns
unfolding ends
returns c = c.is_some.ensures ∙ placed_read _ _ c.expect.result c.expect.ensures
