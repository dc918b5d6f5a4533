-- `kit_808::levels::clap_levels` meets its contract: what each frame reads of the tail is its level. Assumes nothing.
use Prim.Native.Nat.{◌-◌}
use mathlib.Core.Path.{ap, ◌∙◌}
use borrow.Author.Rules.{rules}
use lib.Ieee.{nan}
use lib.ListN.{get_or}
use Rattle.osc.specs.Phase.{seconds}
use Rattle.kit_808.specs.Block.{eight08_clap_level, eight08_level}
use Rattle.kit_808.proofs.levels.clap_levels.Goals as goal

pub returns : goal.returns
unfolding eight08_level
returns c =
    let p = c.args in
    let tail = c.decays_before.ensures.1 in
    let made = c.at_times.ensures.tabled (λ i. eight08_clap_level (seconds p.srf i) (get_or c.decays_before.new.a (i - p.from) nan)) (λ i x ge lt q. search rules) in
    (c.at_times.ensures.a_len, record { at = λ k h g. made.at k h g ∙ ap (eight08_clap_level (seconds p.srf k)) (tail.at k h g) })
