-- `voice_pluck::guitar::ring_all` meets its contract: each call by what it ensures. Assumes nothing.
use Rattle.voice_pluck.specs.Guitar.{all_rung}
use Rattle.std.proofs.Common.{rules}
use Rattle.voice_pluck.proofs.guitar.ring_all.Goals as goal

pub returns : goal.returns
unfolding all_rung
returns c = rw (c.ring-back.ensures, c.ring-top.ensures, c.ring-air.ensures)
