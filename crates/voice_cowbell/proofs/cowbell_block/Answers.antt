-- `voice_cowbell::cowbell_block` meets its contract. Assumes nothing.
use native.Mathlib.Omega.{arith}
use Rattle.dsl.specs.Pitch.{pitch_at}
use Rattle.dsl.proofs.Reach.{reaches_less}
use Rattle.voice_cowbell.proofs.Sounded.{cowbell_tabled}
use borrow.Author.Rules.{rules}
use Rattle.voice_cowbell.proofs.cowbell_block.Goals as goal

pub turns-requires : goal.turns-requires
turns-requires c =
    record {
      n_bound = (omega (arith, c.requires.from_le_end), c.requires.x_len.0);
      reaches = reaches_less c.args.pitch _ _ _ c.requires.reaches (omega (arith, c.requires.from_le_end));
    }

pub decays_before-requires : goal.decays_before-requires
decays_before-requires c =
    record {
      from_le_end = (c.requires.from_le_end.0, c.requires.from_le_end.1, c.requires.reaches.few);
      a_len = c.requires.e_len.0;
    }

pub mix-requires : goal.mix-requires
mix-requires c =
    (omega (arith, c.requires.from_le_end), c.requires.e_len.1)

pub returns : goal.returns
returns c =
    let drive = c.driven.ensures in
    let levels = c.decays_before.ensures in
    let mixed = c.mix.ensures in
    record {
      x_len_2 = (drive.0, c.tanhf_block.ensures.e_len.0, c.sinf_block.ensures.near_len.1, c.tanhf_block.ensures.e_len.1, c.tanhf_block.ensures.e_len.2);
      e_len_2 = (levels.0, mixed.0);
      tabled = cowbell_tabled (pitch_at c.args.pitch c.args.lane.now) c.args.srf c.args.from c.args.end
          c.turns.ensures.rows c.sinf_block.ensures.tabled drive.1 c.tanhf_block.ensures.tabled levels.1 mixed.1;
    }
