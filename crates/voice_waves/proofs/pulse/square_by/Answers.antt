-- `voice_waves::pulse::square_by` meets its contract: each call by what it ensures. Assumes nothing.
use Rattle.voice_waves.specs.Block.{square_by}
use borrow.Author.Rules.{rules}
use Rattle.voice_waves.proofs.pulse.square_by.Goals as goal

pub returns : goal.returns
unfolding square_by
returns c = rw (c.wrap.ensures, c.pulse.ensures, c.fract.ensures)
