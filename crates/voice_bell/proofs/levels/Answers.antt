-- `voice_bell::levels` meets its contract. Assumes nothing.
use borrow.Author.Rules.{rules}
use Rattle.voice_bell.proofs.levels.Goals as goal

pub returns : goal.returns
returns c =
    record {
      e0_len_2 = (c.decays_before.ensures.0, c.decays_before-2.ensures.0, c.decays_before-3.ensures.0, c.decays_before-4.ensures.0, c.decays_before-5.ensures.0);
      tabled = c.decays_before.ensures.1;
      tabled_2 = c.decays_before-2.ensures.1;
      tabled_3 = c.decays_before-3.ensures.1;
      tabled_4 = c.decays_before-4.ensures.1;
      tabled_5 = c.decays_before-5.ensures.1;
    }
