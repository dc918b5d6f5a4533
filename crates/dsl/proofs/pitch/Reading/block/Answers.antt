-- `dsl::pitch::Reading::block` meets its contract. Assumes nothing.
use native.Mathlib.Omega.{arith}
use borrow.Author.Rules.{rules}
use Rattle.dsl.proofs.pitch.Reading.block.Goals as goal

pub block_each-requires : goal.block_each-requires
block_each-requires c =
    record {
      hop_value = omega (arith, c.if-self-eq1.true);
      from_le_end = c.requires.from_le_end;
      reaches = c.requires.reaches;
    }
