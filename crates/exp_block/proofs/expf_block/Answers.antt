-- `exp_block::expf_block` meets its contract. Assumes nothing.
use native.Mathlib.Omega.{arith}
use borrow.Author.Rules.{rules}
use Rattle.blocks.proofs.Block.{tabled_none}
use Rattle.exp_block.proofs.expf_block.Goals as goal

pub exp_all-requires : goal.exp_all-requires
exp_all-requires c =
    record {
      first_bound = (omega arith, c.outsiders.ensures c.if-outsiders-eq0.true);
      out_len = (c.requires, tabled_none);
    }

pub exp_but_first-requires : goal.exp_but_first-requires
exp_but_first-requires c =
    record {
      by_index = c.outsiders-else-outsiders-eq0.ensures c.if-outsiders-eq0-2.true;
      out_len = search rules;
    }
