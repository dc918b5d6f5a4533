-- `voice_epiano::epiano_decay` meets its contract: each call by what it ensures. Assumes nothing.
use Rattle.voice_epiano.specs.Epiano.{epiano_decay}
use borrow.Author.Rules.{rules}
use Rattle.voice_epiano.proofs.epiano_decay.Goals as goal

pub returns : goal.returns
unfolding epiano_decay
returns c = rw (c.clamp_f32.ensures, c.max_f32.ensures)
