-- `voice_organ::organ_block` meets its contract. Assumes nothing.
use native.Mathlib.Omega.{arith}
use Rattle.dsl.specs.Pitch.{pitch_at}
use Rattle.dsl.proofs.Reach.{reaches_less}
use Rattle.voice_organ.specs.Block.{organ_reached}
use Rattle.voice_organ.proofs.Organ.{shared_of, organ_carried_part}
use borrow.Author.Rules.{rules}
use Rattle.voice_organ.proofs.organ_block.Goals as goal

pub phases-next-requires : goal.phases-next-requires
phases-next-requires c =
    record {
      n_bound = (omega (arith, c.requires.from_le_end), c.requires.x_len.0, c.requires.y_len.0);
      reaches = reaches_less c.args.pitch _ _ _ c.requires.reaches (omega (arith, c.requires.from_le_end));
    }

pub sinf_block-requires : goal.sinf_block-requires
sinf_block-requires c =
    (omega (arith, c.requires.from_le_end), c.requires.x_len.1, c.requires.x_len.2, c.requires.x_len.3, c.requires.x_len.4)

pub sixths-requires : goal.sixths-requires
sixths-requires c =
    let at = organ_reached (pitch_at c.args.pitch c.args.lane.now) c.args.srf c.args.from c.args.start in
    record {
      n_bound = omega (arith, c.requires.from_le_end);
      nan_value = shared_of c.args.bars at c.phases-next.ensures.rows c.phases-next.ensures.tabled c.sinf_block.ensures.tabled;
      near_len = (c.sinf_block.ensures.near_len.0, c.sinf_block.ensures.near_len.1, c.sinf_block.ensures.near_len.2, c.requires.y_len.1);
    }

pub decays_before-requires : goal.decays_before-requires
decays_before-requires c =
    record {
      from_le_end = (c.requires.from_le_end.0, c.requires.from_le_end.1, c.requires.reaches.few);
      a_len = c.requires.y_len.2;
    }

pub mix-requires : goal.mix-requires
mix-requires c =
    (omega (arith, c.requires.from_le_end), omega (arith, c.requires.from_le_end))

pub returns : goal.returns
returns c =
    let levels = c.decays_before.ensures in
    record {
      x_len_2 = (c.phases-next.ensures.x_len.0, c.sixths.ensures.near_len_2.0, c.sixths.ensures.near_len_2.1, c.sixths.ensures.near_len_2.2, c.sinf_block.ensures.near_len.3);
      y_len_2 = (c.phases-next.ensures.x_len.1, c.sixths.ensures.near_len_2.3, levels.0);
      carried = organ_carried_part c.args.bars c.args.norm (pitch_at c.args.pitch c.args.lane.now) c.args.srf c.args.from c.args.end c.args.start
          c.phases-next.ensures.rows c.phases-next.ensures.tabled c.sinf_block.ensures.tabled
          c.sixths.ensures.tabled levels.1 c.requires.from_le_end.0 c.requires.from_le_end.2 c.mix.ensures c.phases-next.ensures.value;
    }
