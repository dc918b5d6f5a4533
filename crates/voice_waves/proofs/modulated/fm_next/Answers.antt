-- `voice_waves::modulated::fm_next` meets its contract. Assumes nothing.
use Rattle.voice_waves.specs.Block.{fm_next}
use borrow.Author.Rules.{rules}
use Rattle.voice_waves.proofs.modulated.fm_next.Goals as goal

pub returns : goal.returns
unfolding fm_next
returns c = rw (c.wrap-2.ensures, c.wrap.ensures)
