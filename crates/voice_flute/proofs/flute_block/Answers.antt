-- `voice_flute::flute_block` meets its contract. Assumes nothing.
use native.Mathlib.Omega.{arith}
use Rattle.dsl.specs.Pitch.{pitch_at}
use Rattle.dsl.proofs.Reach.{reaches_less}
use Rattle.blocks.proofs.Block.{tabled_all}
use Rattle.voice_flute.proofs.Flute.{flute_carried_part}
use borrow.Author.Rules.{rules}
use Rattle.voice_flute.proofs.flute_block.Goals as goal

pub decays_before-requires : goal.decays_before-requires
decays_before-requires c = record {
  from_le_end = (c.requires.from_le_end.0, c.requires.from_le_end.1, c.requires.reaches.few);
  a_len = c.requires.e_len.0;
}

pub states-next-requires : goal.states-next-requires
states-next-requires c =
    record {
      n_bound = (omega (arith, c.requires.from_le_end), c.requires.x_len.0, c.requires.e_len.1);
      reaches = reaches_less c.args.pitch _ _ _ c.requires.reaches (omega (arith, c.requires.from_le_end));
      tabled = tabled_all c.decays_before.ensures.1 (omega (arith, c.requires.from_le_end));
    }

pub sinf_block-requires : goal.sinf_block-requires
sinf_block-requires c =
    (omega (arith, c.requires.from_le_end), c.requires.x_len.1, c.requires.x_len.2, c.requires.x_len.3, c.requires.x_len.4)

pub mix-requires : goal.mix-requires
mix-requires c =
    (omega (arith, c.requires.from_le_end), omega (arith, c.requires.from_le_end))

pub returns : goal.returns
returns c =
    record {
      x_len_2 = (c.states-next.ensures.x_len.0, c.sinf_block.ensures.near_len.0, c.sinf_block.ensures.near_len.1, c.sinf_block.ensures.near_len.2, c.sinf_block.ensures.near_len.3);
      e_len_2 = (c.decays_before.ensures.0, c.states-next.ensures.x_len.1);
      carried = flute_carried_part (pitch_at c.args.pitch c.args.lane.now) c.args.gain c.args.srf c.args.lp_a c.args.from c.args.end c.args.start
          c.states-next.ensures.tabled_2 c.states-next.ensures.tabled_3 c.sinf_block.ensures.tabled c.requires.from_le_end.0 c.requires.from_le_end.2 c.mix.ensures c.states-next.ensures.value;
    }
