-- `brass_opening::openings_whole` meets its contract. Assumes nothing.
use lib.Ieee.{nan}
use lib.ListN.{get_or}
use Rattle.blocks.proofs.Block.{tabled_through, tabled_shift, tabled_unshift}
use Rattle.frame_block.specs.Decay.{decay_at}
use Rattle.opening_block.specs.Opened.{opened_by}
use Rattle.brass_opening.specs.Opening.{c0·07, cutoff_by, opening_at}
use borrow.Author.Rules.{rules}
use Rattle.brass_opening.proofs.openings_whole.Goals as goal

pub returns : goal.returns
unfolding opening_at
returns c =
    let p = c.args in
    let first = tabled_unshift (decay_at p.srf c0·07) p.from 64 c.decays_before.ensures.1 in
    let by = c.table.ensures (λ k. cutoff_by p.gain p.srf (get_or c.decays_before.new.a k nan)) (λ i x ge lt q. search rules) in
    let second = tabled_through opened_by (tabled_through (cutoff_by p.gain p.srf) first by.1) c.openings.ensures.1 in
    (c.openings.ensures.0, tabled_shift (opening_at p.gain p.srf) p.from 64 second)
