-- `voice_bell::bell_block` meets its contract. Assumes nothing.
use native.Mathlib.Omega.{arith}
use Rattle.dsl.specs.Pitch.{pitch_at}
use Rattle.dsl.proofs.Reach.{reaches_less}
use Rattle.voice_bell.proofs.Bell.{bell_carried_part}
use borrow.Author.Rules.{rules}
use Rattle.voice_bell.proofs.bell_block.Goals as goal

pub phases-next-requires : goal.phases-next-requires
phases-next-requires c =
    record {
      n_bound = (omega arith, c.requires.x_len.0);
      reaches = reaches_less c.args.pitch _ _ _ c.requires.reaches (omega arith);
    }

pub levels-requires : goal.levels-requires
levels-requires c =
    record {
      from_le_end = (c.requires.from_le_end.0, c.requires.from_le_end.1, c.requires.reaches.few);
      e0_len = c.requires.e0_len;
    }

pub mix-requires : goal.mix-requires
mix-requires c =
    (omega (arith, c.requires.from_le_end), omega (arith, c.requires.from_le_end))

pub returns : goal.returns
returns c =
    record {
      x_len_2 = (c.phases-next.ensures.x_len, c.sinf_block.ensures.near_len.0, c.sinf_block.ensures.near_len.1, c.sinf_block.ensures.near_len.2, c.sinf_block.ensures.near_len.3);
      e0_len_2 = c.levels.ensures.e0_len_2;
      carried = bell_carried_part (pitch_at c.args.pitch c.args.lane.now) c.args.srf c.args.from c.args.end c.args.start c.phases-next.ensures.rows c.sinf_block.ensures.tabled
          c.levels.ensures.tabled c.levels.ensures.tabled_2 c.levels.ensures.tabled_3 c.levels.ensures.tabled_4 c.levels.ensures.tabled_5
          c.requires.from_le_end.0 c.requires.from_le_end.2 c.mix.ensures c.phases-next.ensures.value;
    }
