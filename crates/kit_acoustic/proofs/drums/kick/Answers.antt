-- `kit_acoustic::drums::kick` meets its contract: each call by what it ensures. Assumes nothing.
use Rattle.kit_acoustic.specs.Drums.{acoustic_kick}
use Rattle.kit_acoustic.proofs.drums.kick.Goals as goal

pub returns : goal.returns
unfolding acoustic_kick
returns c =
    rw (c.beater_knock-knock.ensures, c.exp-2.ensures, c.sin.ensures, c.wrap-phase.ensures, c.exp.ensures)
