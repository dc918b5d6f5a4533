-- `brass_opening::openings` meets its contract. Assumes nothing.
use native.Mathlib.Omega.{arith}
use borrow.Author.Tests.{leb-true}
use borrow.Author.Rules.{rules}
use Rattle.blocks.proofs.Block.{tabled_less}
use Rattle.brass_opening.specs.Opening.{opening_at}
use Rattle.brass_opening.proofs.openings.Goals as goal

pub openings_whole-requires : goal.openings_whole-requires
openings_whole-requires c =
    record {
      from_bound = omega (arith, leb-true c.args.from 16777152 c.if-from-le16777152.true-raw);
      a_len = c.requires.a_len;
    }

pub returns-then-from-le16777152 : goal.returns-then-from-le16777152
returns-then-from-le16777152 c = (c.openings_whole.ensures.0, tabled_less _ c.openings_whole.ensures.1 (omega arith))

pub returns-else-end-from-ge-FEW : goal.returns-else-end-from-ge-FEW
returns-else-end-from-ge-FEW c = c.table.ensures (opening_at c.args.gain c.args.srf) (λ i x ge lt q. search rules)
