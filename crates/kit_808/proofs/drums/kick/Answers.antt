-- `kit_808::drums::kick` meets its contract: each call by what it ensures. Assumes nothing.
use Rattle.kit_808.specs.Drums.{eight08_kick}
use Rattle.kit_808.proofs.drums.kick.Goals as goal

pub returns : goal.returns
unfolding eight08_kick
returns c =
    rw (c.beater_click-click.ensures.1, c.beater_click-click.ensures.0, c.exp-2.ensures, c.sin.ensures, c.wrap-phase.ensures, c.exp.ensures)
