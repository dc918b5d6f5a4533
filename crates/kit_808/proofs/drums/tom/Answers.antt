-- `kit_808::drums::tom` meets its contract: each call by what it ensures. Assumes nothing.
use Rattle.kit_808.specs.Drums.{eight08_tom}
use Rattle.kit_808.proofs.drums.tom.Goals as goal

pub returns : goal.returns
unfolding eight08_tom
returns c = rw (c.exp-2.ensures, c.sin.ensures, c.wrap-phase.ensures, c.exp.ensures)
