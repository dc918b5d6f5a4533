-- `voice_waves::pulse::widths` meets its contract. Assumes nothing.
use lib.Ieee.{nan}
use lib.ListN.{get_or}
use Rattle.ieee.specs.Numbers.{c0·01}
use Rattle.ieee.specs.Order.{clamp_of}
use Rattle.voice_waves.specs.Pulse.{c0·99}
use Rattle.voice_waves.proofs.Stepped.{tabled_by}
use borrow.Author.Rules.{rules}
use Rattle.voice_waves.proofs.pulse.widths.Goals as goal

pub returns : goal.returns
returns c =
    let p = c.args in
    let r = c.block.ensures in
    let s = c.table.ensures (λ k. clamp_of (get_or c.block.new.f k nan) c0·01 c0·99) (λ i x ge lt q. search rules) in
    record {
      d_len = (r.0, s.0);
      tabled = tabled_by (λ x. clamp_of x c0·01 c0·99) r.1 s.1 c.requires.from_le_end.1;
    }
