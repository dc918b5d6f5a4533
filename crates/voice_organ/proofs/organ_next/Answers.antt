-- `voice_organ::organ_next` meets its contract. Assumes nothing.
use borrow.Author.Rules.{rules}
use Rattle.voice_organ.proofs.organ_next.Goals as goal

pub returns : goal.returns
returns c = rw (c.wrap.ensures, c.max_f32.ensures)
