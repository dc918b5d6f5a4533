-- `kit_acoustic::clap::bursts_whole` meets its contract. Assumes nothing.
use Prim.Native.Nat.{◌-◌}
use mathlib.Core.Path.{ap, ◌∙◌}
use native.Mathlib.Omega.{arith}
use borrow.Author.Rules.{rules}
use lib.Ieee.{nan}
use lib.ListN.{get_or}
use Rattle.blocks.proofs.Block.{tabled_from}
use Rattle.osc.specs.Phase.{seconds}
use Rattle.dsp.specs.Kernels.{exp_of}
use Rattle.kit_acoustic.specs.Block.{burst_argument, heard_of}
use Rattle.kit_acoustic.proofs.ByLevel.{burst_heard}
use Rattle.kit_acoustic.proofs.clap.bursts_whole.Goals as goal

pub returns : goal.returns
returns c =
    let p = c.args in
    let by = c.at_times.ensures.tabled (λ i. burst_argument (seconds p.srf i) p.d) (λ i x ge lt q. search rules) in
    let made_of = c.exps_before.ensures.1 in
    let exps = tabled_from (λ i. exp_of (burst_argument (seconds p.srf i) p.d)) p.from p.end made_of (omega arith) (λ k h m. ap exp_of (by.at k h m)) in
    let made = c.at_times-2.ensures.tabled (λ i. heard_of (seconds p.srf i) p.d (get_or c.exps_before.new.out (i - p.from) nan)) (λ i x ge lt q. search rules) in
    (c.at_times-2.ensures.a_len, record { at = λ k h m. made.at k h m ∙ ap (heard_of (seconds p.srf k) p.d) (exps.at k h m) ∙ burst_heard (seconds p.srf k) p.d })
