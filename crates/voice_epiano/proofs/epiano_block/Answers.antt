-- `voice_epiano::epiano_block` meets its contract. Assumes nothing.
use native.Mathlib.Omega.{arith}
use Rattle.dsl.specs.Pitch.{pitch_at}
use Rattle.dsl.proofs.Reach.{reaches_less}
use Rattle.voice_epiano.proofs.Epiano.{epiano_carried_part}
use borrow.Author.Rules.{rules}
use Rattle.voice_epiano.proofs.epiano_block.Goals as goal

pub levels-requires : goal.levels-requires
levels-requires c = record {
  from_le_end = (c.requires.from_le_end.0, c.requires.from_le_end.1, c.requires.reaches.few);
  soft_len = (c.requires.c_len.1, c.requires.c_len.2, c.requires.c_len.3);
}

pub phases-next-requires : goal.phases-next-requires
phases-next-requires c =
    record {
      n_bound = (omega (arith, c.requires.from_le_end), c.requires.x_len.0, c.requires.c_len.0);
      reaches = reaches_less c.args.pitch _ _ _ c.requires.reaches (omega (arith, c.requires.from_le_end));
    }

pub overflow_mul-n : goal.overflow_mul-n
overflow_mul-n c = omega (arith, c.requires.from_le_end)

pub sinf_block-requires : goal.sinf_block-requires
sinf_block-requires c =
    let long = c.requires.x_len in (omega (arith, c.requires.from_le_end), long.1, long.2, long.3, long.4)

pub bend-requires : goal.bend-requires
bend-requires c =
    (omega (arith, c.requires.from_le_end), c.phases-next.ensures.x_len.0)

pub overflow_mul-n-2 : goal.overflow_mul-n-2
overflow_mul-n-2 c =
    omega (arith, c.requires.from_le_end)

pub sinf_block-requires-2 : goal.sinf_block-requires-2
sinf_block-requires-2 c =
    let long = c.sinf_block.ensures.near_len in (omega (arith, c.requires.from_le_end), long.0, long.1, long.2, long.3)

pub mix-requires : goal.mix-requires
mix-requires c =
    (omega (arith, c.requires.from_le_end), omega (arith, c.requires.from_le_end))

pub returns : goal.returns
returns c =
    let bent = c.bend.ensures in
    record {
      x_len_2 = (bent.0, c.sinf_block-2.ensures.near_len.0, c.sinf_block-2.ensures.near_len.1, c.sinf_block-2.ensures.near_len.2, c.sinf_block-2.ensures.near_len.3);
      c_len_2 = (c.phases-next.ensures.x_len.1, c.levels.ensures.soft_len_2.0, c.levels.ensures.soft_len_2.1, c.levels.ensures.soft_len_2.2);
      carried = epiano_carried_part (pitch_at c.args.pitch c.args.lane.now) c.args.gain c.args.srf c.args.decay c.args.from c.args.end c.args.start
          c.phases-next.ensures.rows c.phases-next.ensures.tabled c.sinf_block.ensures.tabled bent.1 c.sinf_block-2.ensures.tabled
          c.levels.ensures.tabled c.levels.ensures.tabled_2 c.levels.ensures.tabled_3
          c.requires.from_le_end.0 c.requires.from_le_end.2 c.mix.ensures c.phases-next.ensures.value;
    }
