-- `voice_cowbell::cowbell_before` meets its contract: a constant pitch reaches any number of frames. Assumes nothing.
use mathlib.Core.Path.{refl, ap}
use lib.Ieee.{Float}
use Rattle.blocks.proofs.Block.{tabled_same}
use Rattle.voice_cowbell.specs.Cowbell.{cowbell_at}
use Rattle.voice_cowbell.proofs.Sounded.{constant_reaches, constant_at}
use borrow.Author.Rules.{rules}
use Rattle.voice_cowbell.proofs.cowbell_before.Goals as goal

pub cowbell_block-requires : goal.cowbell_block-requires
cowbell_block-requires c =
    record {
      from_le_end = (c.requires.from_le_end.0, c.requires.from_le_end.1);
      reaches = constant_reaches c.args.f _ _ c.new-pitch.ensures c.requires.from_le_end.2;
      x_len = (refl, refl, refl, refl, refl);
      e_len = (refl, c.requires.z_len);
    }

pub returns : goal.returns
returns c =
    let p = c.args in
    (c.cowbell_block.ensures.e_len_2.1, tabled_same (λ k. ap (λ (f : Float). cowbell_at f p.srf k) (constant_at p.f _ k c.new-pitch.ensures)) c.cowbell_block.ensures.tabled)
