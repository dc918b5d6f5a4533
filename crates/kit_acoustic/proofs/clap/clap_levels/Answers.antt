-- `kit_acoustic::clap::clap_levels` meets its contract: each table by what its call ensures. Assumes nothing.
use native.Mathlib.Omega.{arith}
use lib.Ieee.{nan}
use lib.ListN.{get_or}
use borrow.Author.Rules.{rules}
use Rattle.blocks.proofs.Block.{tabled_from}
use Rattle.osc.specs.Phase.{seconds}
use Rattle.kit_acoustic.specs.Block.{clap_mix, acoustic_clap_level}
use Rattle.kit_acoustic.proofs.ByLevel.{clap_mixed}
use Rattle.kit_acoustic.proofs.clap.clap_levels.Goals as goal

pub returns : goal.returns
returns c =
    let p = c.args in
    let made =
    c.table.ensures
    (λ k. clap_mix (get_or c.bursts.new.a k nan) (get_or c.bursts-2.new.a k nan) (get_or c.bursts-3.new.a k nan) (get_or c.bursts-4.new.a k nan) (get_or c.decays_before.new.a k nan))
    (λ i x ge lt q. search rules) in
    let tail = c.decays_before.ensures.1 in (
      made.0,
      tabled_from (λ i. acoustic_clap_level (seconds p.srf i)) p.from p.end made.1 (omega arith)
          (λ k h m. clap_mixed (seconds p.srf k) (c.bursts.ensures.1.at k h m) (c.bursts-2.ensures.1.at k h m) (c.bursts-3.ensures.1.at k h m)
          (c.bursts-4.ensures.1.at k h m) (tail.at k h m)),
    )
