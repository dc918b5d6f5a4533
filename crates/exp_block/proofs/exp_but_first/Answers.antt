-- `exp_block::exp_but_first` meets its contract. Assumes nothing.
use native.Mathlib.Omega.{arith}
use borrow.Author.Rules.{rules}
use lib.ListN.{length-set}
use Rattle.blocks.proofs.Block.{tabled_none, tabled_next}
use Rattle.exp_block.proofs.exp_but_first.Goals as goal

pub exp_all-requires : goal.exp_all-requires
exp_all-requires c =
    record {
      first_bound = (omega arith, c.requires.by_index);
      out_len = (rw length-set c.requires.out_len, tabled_next {l = c.args.out.now} tabled_none (omega (arith, c.requires.out_len)) c.expf.ensures);
    }
