-- `opening_block::openings` meets its contract. Assumes nothing.
use lib.Ieee.{nan}
use lib.ListN.{get_or}
use Rattle.blocks.proofs.Block.{tabled_through}
use Rattle.opening_block.specs.Opened.{rest_of}
use borrow.Author.Rules.{rules}
use Rattle.opening_block.proofs.openings.Goals as goal

pub returns : goal.returns
returns c =
    let by = c.table.ensures (λ k. rest_of (get_or c.expf_block.new.out k nan)) (λ i x ge lt q. search rules) in
    (by.0, tabled_through rest_of c.expf_block.ensures.1 by.1)
