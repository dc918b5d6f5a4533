-- `voice_waves::modulated::fm_block` meets its contract. Assumes nothing.
use native.Mathlib.Omega.{arith}
use Rattle.dsl.specs.Pitch.{pitch_at}
use Rattle.dsl.proofs.Reach.{reaches_less}
use Rattle.voice_waves.proofs.Modulation.{fm_carried_part}
use borrow.Author.Rules.{rules}
use Rattle.voice_waves.proofs.modulated.fm_block.Goals as goal

pub phases-next-requires : goal.phases-next-requires
phases-next-requires c =
    record {
      n_bound = (omega (arith, c.requires.from_le_end), c.requires.x_len.0, c.requires.x_len.1);
      reaches = reaches_less c.args.pitch _ _ _ c.requires.reaches (omega (arith, c.requires.from_le_end));
    }

pub sinf_block-requires : goal.sinf_block-requires
sinf_block-requires c =
    (omega (arith, c.requires.from_le_end), c.requires.x_len.2, c.requires.x_len.3, c.requires.x_len.4, c.requires.x_len.5)

pub decays_before-requires : goal.decays_before-requires
decays_before-requires c = record {
  from_le_end = (c.requires.from_le_end.0, c.requires.from_le_end.1, c.requires.reaches.few);
  a_len = c.requires.e_len;
}

pub bend-requires : goal.bend-requires
bend-requires c =
    (omega (arith, c.requires.from_le_end), c.phases-next.ensures.x_len.0)

pub sinf_block-requires-2 : goal.sinf_block-requires-2
sinf_block-requires-2 c =
    let z = c.sinf_block.ensures.near_len in
    (omega (arith, c.requires.from_le_end), z.0, z.1, z.2, z.3)

pub copy-requires : goal.copy-requires
copy-requires c =
    (omega (arith, c.requires.from_le_end), omega (arith, c.requires.from_le_end))

pub returns : goal.returns
returns c =
    let level = c.decays_before.ensures in
    let bent = c.bend.ensures in
    record {
      x_len_2 = (bent.0, c.phases-next.ensures.x_len.1, c.sinf_block-2.ensures.near_len.0, c.sinf_block-2.ensures.near_len.1, c.sinf_block-2.ensures.near_len.2, c.sinf_block-2.ensures.near_len.3);
      e_len_2 = level.0;
      carried = fm_carried_part (pitch_at c.args.pitch c.args.lane.now) c.args.knobs c.args.gain c.args.srf c.args.from c.args.end c.args.start
          c.phases-next.ensures.tabled c.phases-next.ensures.tabled_2 c.sinf_block.ensures.tabled (rw c.max_f32.ensures at level.1)
          bent.1 c.sinf_block-2.ensures.tabled c.requires.from_le_end.0 c.requires.from_le_end.2 c.copy.ensures c.phases-next.ensures.value;
    }
