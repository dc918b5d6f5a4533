-- `voice_waves::plain::sine_by` meets its contract: each call by what it ensures. Assumes nothing.
use Rattle.voice_waves.specs.Block.{sine_by}
use borrow.Author.Rules.{rules}
use Rattle.voice_waves.proofs.plain.sine_by.Goals as goal

pub returns : goal.returns
unfolding sine_by
returns c = rw (c.wrap.ensures, c.osc.ensures)
