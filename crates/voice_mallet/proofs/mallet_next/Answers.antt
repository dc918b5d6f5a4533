-- `voice_mallet::mallet_next` meets its contract. Assumes nothing.
use Rattle.voice_mallet.specs.Block.{mallet_next}
use borrow.Author.Rules.{rules}
use Rattle.voice_mallet.proofs.mallet_next.Goals as goal

pub returns : goal.returns
unfolding mallet_next
returns c = rw (c.wrap-3.ensures, c.wrap-2.ensures, c.wrap.ensures)
