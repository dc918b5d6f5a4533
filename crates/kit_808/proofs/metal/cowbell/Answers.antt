-- `kit_808::metal::cowbell` meets its contract: each call by what it ensures. Assumes nothing.
use Rattle.kit_808.specs.Metal.{eight08_cowbell}
use Rattle.kit_808.proofs.metal.cowbell.Goals as goal

pub returns : goal.returns
unfolding eight08_cowbell
returns c = rw (c.exp.ensures, c.square-b.ensures, c.square-a.ensures)
