-- `voice_waves::plain::sawtooth_by` meets its contract: each call by what it ensures. Assumes nothing.
use Rattle.voice_waves.specs.Block.{sawtooth_by}
use borrow.Author.Rules.{rules}
use Rattle.voice_waves.proofs.plain.sawtooth_by.Goals as goal

pub returns : goal.returns
unfolding sawtooth_by
returns c = rw (c.wrap.ensures, c.saw.ensures)
