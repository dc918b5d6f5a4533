-- `dsl::pitch::Reading::block_each` meets its contract. Assumes nothing.
use borrow.Author.Rules.{rules}
use native.Mathlib.Omega.{arith}
use mathlib.Core.Path.{◌≡◌}
use Prim.Native.Nat.{◌-◌, ◌≤◌}
use lib.ListN.{length, length-set}
use lib.Ieee.{nan}
use Rattle.blocks.proofs.Block.{Tabled, tabled_none, tabled_more, tabled_all}
use Rattle.dsl.specs.Pitch.{pitch_at}
use Rattle.dsl.proofs.Reach.{reaches_less}
use Rattle.dsl.proofs.pitch.Reading.block_each.Goals as goal

pub loop-i-init : goal.loop-i-init
loop-i-init c = (omega arith, omega arith, c.requires.from_le_end.2, tabled_none)

pub each_at-x-requires : goal.each_at-x-requires
each_at-x-requires c =
    record {
      hop_value = c.requires.hop_value;
      reaches = reaches_less c.args.self _ _ _ c.requires.reaches (omega (arith, c.loop-i-test.true));
    }

pub loop-i-preserved : goal.loop-i-preserved
loop-i-preserved c = (omega arith, omega arith, rw length-set c.loop-i.invariant.2, tabled_more c.loop-i.invariant.3 (omega arith) (omega arith) c.each_at-x.ensures)

pub returns : goal.returns
returns c = (c.loop-i.invariant.2, tabled_all c.loop-i.invariant.3 (omega arith))
