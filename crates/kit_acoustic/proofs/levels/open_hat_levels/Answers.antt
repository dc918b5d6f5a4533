-- `kit_acoustic::levels::open_hat_levels` meets its contract: each table by what its call ensures. Assumes nothing.
use native.Mathlib.Omega.{arith}
use lib.Ieee.{nan}
use lib.ListN.{get_or}
use borrow.Author.Rules.{rules}
use Rattle.blocks.proofs.Block.{tabled_from}
use Rattle.osc.specs.Phase.{seconds}
use Rattle.kit_acoustic.specs.Block.{open_hat_mix, acoustic_open_hat_level}
use Rattle.kit_acoustic.proofs.ByLevel.{open_hat_mixed}
use Rattle.kit_acoustic.proofs.levels.open_hat_levels.Goals as goal

pub returns : goal.returns
returns c =
    let p = c.args in
    let made = c.table.ensures (λ k. open_hat_mix (get_or c.decays_before.new.a k nan) (get_or c.decays_before-2.new.a k nan)) (λ i x ge lt q. search rules) in (
      made.0,
      tabled_from (λ i. acoustic_open_hat_level (seconds p.srf i)) p.from p.end made.1 (omega arith)
          (λ k h m. open_hat_mixed (seconds p.srf k) (c.decays_before.ensures.1.at k h m) (c.decays_before-2.ensures.1.at k h m)),
    )
