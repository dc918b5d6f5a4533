-- `kit_electronic::drums::kick` meets its contract: each call by what it ensures. Assumes nothing.
use Rattle.kit_electronic.specs.Drums.{electronic_kick, electronic_click}
use Rattle.kit_electronic.proofs.drums.kick.Goals as goal

pub returns : goal.returns
unfolding electronic_kick electronic_click
returns c =
    rw (c.click-click.ensures.1, c.click-click.ensures.0, c.exp-2.ensures, c.tanh.ensures, c.sin.ensures, c.wrap-phase.ensures, c.exp.ensures)
