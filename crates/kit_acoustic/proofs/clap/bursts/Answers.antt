-- `kit_acoustic::clap::bursts` meets its contract. Assumes nothing.
use borrow.Author.Rules.{rules}
use Rattle.osc.specs.Phase.{seconds}
use Rattle.kit_acoustic.specs.Clap.{burst_of}
use Rattle.kit_acoustic.proofs.clap.bursts.Goals as goal

pub returns-else-frame_time-d : goal.returns-else-frame_time-d
returns-else-frame_time-d c =
    let p = c.args in
    (c.at_times.ensures.a_len, c.at_times.ensures.tabled (λ i. burst_of (seconds p.srf i) p.d) (λ i x ge lt q. search rules))
