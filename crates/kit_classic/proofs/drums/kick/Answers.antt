-- `kit_classic::drums::kick` meets its contract: each call by what it ensures. Assumes nothing.
use Rattle.kit_classic.specs.Drums.{classic_kick, classic_click}
use Rattle.kit_classic.proofs.drums.kick.Goals as goal

pub returns : goal.returns
unfolding classic_kick classic_click
returns c =
    rw (c.exp-2.ensures, c.sin.ensures, c.click-click.ensures.1, c.click-click.ensures.0, c.wrap-phase.ensures, c.exp.ensures)
