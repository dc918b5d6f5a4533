-- `frame_block::part::decays_before` meets its contract. Assumes nothing.
use native.Mathlib.Omega.{arith}
use borrow.Author.Tests.{leb-true}
use borrow.Author.Rules.{rules}
use Rattle.blocks.proofs.Block.{tabled_less}
use Rattle.frame_block.specs.Decay.{decay_at}
use Rattle.frame_block.proofs.part.decays_before.Goals as goal

pub decays_whole-requires : goal.decays_whole-requires
decays_whole-requires c =
    record {
      from_bound = omega (arith, leb-true c.args.from 16777152 c.if-from-le16777152.true-raw);
      a_len = c.requires.a_len;
    }

pub returns-then-from-le16777152 : goal.returns-then-from-le16777152
returns-then-from-le16777152 c = (c.decays_whole.ensures.0, tabled_less _ c.decays_whole.ensures.1 (omega arith))

pub returns-else-end-from-ge-FEW : goal.returns-else-end-from-ge-FEW
returns-else-end-from-ge-FEW c = c.table.ensures (decay_at c.args.srf c.args.decay) (λ i x ge lt q. search rules)
