-- `voice_epiano::epiano_next` meets its contract. Assumes nothing.
use Rattle.voice_epiano.specs.Block.{epiano_next}
use borrow.Author.Rules.{rules}
use Rattle.voice_epiano.proofs.epiano_next.Goals as goal

pub returns : goal.returns
unfolding epiano_next
returns c = rw (c.wrap-3.ensures, c.wrap-2.ensures, c.wrap.ensures)
