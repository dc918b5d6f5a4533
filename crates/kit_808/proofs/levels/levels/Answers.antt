-- `kit_808::levels::levels` meets its contract: each arm by what its call ensures. Assumes nothing.
use mathlib.Core.Path.{◌∙◌}
use Rattle.osc.specs.Phase.{seconds}
use Rattle.kit_808.specs.Block.{eight08_level}
use Rattle.kit_808.proofs.ByLevel.{no_level}
use Rattle.kit_808.proofs.levels.levels.Goals as goal

pub returns-in-Clap : goal.returns-in-Clap
returns-in-Clap c = rw c.in-Clap.is c.clap_levels.ensures

pub returns-in-Unmapped : goal.returns-in-Unmapped
unfolding eight08_level
returns-in-Unmapped c = rw c.in-Unmapped.is c.decays_before.ensures

pub returns-in_default : goal.returns-in_default
returns-in_default c =
    let p = c.args in
    let made = c.zeros_before.ensures in
    (made.0, record { at = λ k h g. made.1.at k h g ∙ no_level p.drum (seconds p.srf k) c.in_default.not-Clap c.in_default.not-Unmapped })
