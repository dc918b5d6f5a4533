-- `frame_block::part::decays_whole` meets its contract. Assumes nothing.
use Rattle.blocks.proofs.Block.{tabled_shift}
use Rattle.frame_block.specs.Decay.{decay_at}
use Rattle.frame_block.proofs.part.decays_whole.Goals as goal

pub returns : goal.returns
returns c =
    let p = c.args in
    (c.decays.ensures.x_len_2.1, tabled_shift (decay_at p.srf p.decay) p.from 64 c.decays.ensures.tabled)
