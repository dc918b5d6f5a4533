-- `frame_block::decay::decays` meets its contract. Assumes nothing.
use Prim.Native.Nat.{◌+◌}
use Rattle.dsp.specs.Kernels.{exp_of}
use Rattle.blocks.proofs.Block.{tabled_through}
use Rattle.frame_block.specs.Decay.{decay_by}
use borrow.Author.Rules.{rules}
use Rattle.frame_block.proofs.decay.decays.Goals as goal

pub returns : goal.returns
returns c =
    let p = c.args in
    let by = c.table.ensures (λ k. decay_by p.srf p.decay (p.from + k)) (λ i x ge lt q. search rules) in
    record {
      x_len_2 = (by.0, c.expf_block.ensures.0);
      tabled = tabled_through exp_of by.1 c.expf_block.ensures.1;
    }
