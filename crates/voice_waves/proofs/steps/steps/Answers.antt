-- `voice_waves::steps::steps` meets its contract. Assumes nothing.
use lib.Ieee.{nan}
use lib.ListN.{get_or}
use Rattle.osc.specs.Phase.{increment}
use Rattle.voice_waves.proofs.Stepped.{tabled_by}
use borrow.Author.Rules.{rules}
use Rattle.voice_waves.proofs.steps.steps.Goals as goal

pub returns : goal.returns
returns c =
    let p = c.args in
    let r = c.block.ensures in
    let s = c.table.ensures (λ k. increment (get_or c.block.new.f k nan) p.srf) (λ i x ge lt q. search rules) in
    record {
      f_len = (r.0, s.0);
      tabled = tabled_by (λ x. increment x p.srf) r.1 s.1 c.requires.from_le_end.1;
    }
