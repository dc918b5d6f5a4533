-- `voice_epiano::levels` meets its contract. Assumes nothing.
use borrow.Author.Rules.{rules}
use Rattle.voice_epiano.proofs.levels.Goals as goal

pub returns : goal.returns
returns c =
    record {
      soft_len_2 = (c.decays_before.ensures.0, c.decays_before-2.ensures.0, c.decays_before-3.ensures.0);
      tabled = c.decays_before.ensures.1;
      tabled_2 = c.decays_before-2.ensures.1;
      tabled_3 = c.decays_before-3.ensures.1;
    }
