-- `kit_electronic::levels::levels` meets its contract: each arm by what its call ensures. Assumes nothing.
use mathlib.Core.Path.{◌∙◌}
use Rattle.blocks.proofs.Block.{tabled_same}
use Rattle.osc.specs.Phase.{seconds}
use Rattle.kit_electronic.specs.Block.{electronic_block_level}
use Rattle.kit_electronic.proofs.ByLevel.{no_block_level, cowbell_level}
use Rattle.kit_electronic.proofs.levels.levels.Goals as goal

pub returns-in-Clap : goal.returns-in-Clap
unfolding electronic_block_level
returns-in-Clap c = rw c.in-Clap.is c.claps_before.ensures

pub returns-in-ClosedHat : goal.returns-in-ClosedHat
unfolding electronic_block_level
returns-in-ClosedHat c = rw c.in-ClosedHat.is c.decays_before.ensures

pub returns-in-Cowbell : goal.returns-in-Cowbell
unfolding electronic_block_level
returns-in-Cowbell c =
    let made = c.cowbell_before.ensures in
    rw c.in-Cowbell.is (made.0, tabled_same (λ k. cowbell_level c.args.srf k) made.1)

pub returns-in-Unmapped : goal.returns-in-Unmapped
unfolding electronic_block_level
returns-in-Unmapped c = rw c.in-Unmapped.is c.decays_before-in-Unmapped.ensures

pub returns-in_default : goal.returns-in_default
returns-in_default c =
    let p = c.args in
    let made = c.zeros_before.ensures in
    (made.0, record { at = λ k h g. made.1.at k h g ∙ no_block_level p.drum (seconds p.srf k) c.in_default.not-Clap c.in_default.not-ClosedHat c.in_default.not-Cowbell c.in_default.not-Unmapped })
