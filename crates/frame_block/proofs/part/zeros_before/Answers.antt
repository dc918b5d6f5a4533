-- `frame_block::part::zeros_before` meets its contract. Assumes nothing.
use borrow.Author.Rules.{rules}
use Rattle.ieee.specs.Numbers.{c0}
use Rattle.frame_block.proofs.part.zeros_before.Goals as goal

pub returns : goal.returns
returns c = c.table.ensures (λ _. c0) (λ i x ge lt q. search rules)
