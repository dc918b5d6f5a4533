-- `voice_waves::pulse::triangle_by` meets its contract: each call by what it ensures. Assumes nothing.
use Rattle.voice_waves.specs.Block.{triangle_by}
use borrow.Author.Rules.{rules}
use Rattle.voice_waves.proofs.pulse.triangle_by.Goals as goal

pub returns : goal.returns
unfolding triangle_by
returns c = rw (c.wrap.ensures, c.pulse-sq.ensures, c.fract.ensures)
