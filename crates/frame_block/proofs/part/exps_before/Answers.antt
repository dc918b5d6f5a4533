-- `frame_block::part::exps_before` meets its contract. Assumes nothing.
use native.Mathlib.Omega.{arith}
use borrow.Author.Rules.{rules}
use Rattle.blocks.proofs.Block.{tabled_less}
use Rattle.dsp.specs.Kernels.{exp_of}
use lib.Ieee.{nan}
use lib.ListN.{get_or}
use Rattle.frame_block.proofs.part.exps_before.Goals as goal

pub returns-then-n-ge-FEW : goal.returns-then-n-ge-FEW
returns-then-n-ge-FEW c = (c.expf_block.ensures.0, tabled_less _ c.expf_block.ensures.1 (omega arith))

pub returns-else-n-ge-FEW : goal.returns-else-n-ge-FEW
returns-else-n-ge-FEW c = c.table.ensures (λ k. exp_of (get_or c.args.x.now k nan)) (λ i x ge lt q. search rules)
