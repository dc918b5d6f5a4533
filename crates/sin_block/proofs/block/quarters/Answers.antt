-- `sin_block::block::quarters` meets its contract. Assumes nothing.
use native.Mathlib.Omega.{arith}
use Prim.Native.Nat.{◌-◌}
use lib.ListN.{get_or}
use lib.Ieee.{nan}
use mathlib.Core.Path.{◌≡◌}
use Rattle.ieee.specs.Binary64.{◌⊟◌, ◌⊠◌}
use Rattle.trig.specs.Trig.{FRAC·PI·2, sin_reduced}
use Rattle.sin_block.specs.Quarter.{sine_at}
use Rattle.blocks.proofs.Counted.{Counted, counted_none, counted_more, counted_most, counted_all}
use borrow.Author.Rules.{rules}
use Rattle.sin_block.proofs.block.quarters.Goals as goal

pub loop-i-init : goal.loop-i-init
loop-i-init c = counted_none c.requires.0 c.requires.1

pub bounds-near-i : goal.bounds-near-i
bounds-near-i c = let l = c.loop-i-test.true in omega (arith, c.loop-i.invariant.room)

pub bounds-q-i : goal.bounds-q-i
bounds-q-i c = let l = c.loop-i-test.true in omega (arith, c.loop-i.invariant.room)

pub overflow_add-bad : goal.overflow_add-bad
overflow_add-bad c = omega (arith, counted_most c.loop-i.invariant, c.quarter_one-t.ensures.0)

pub loop-i-preserved : goal.loop-i-preserved
loop-i-preserved c =
    counted_more c.loop-i.invariant c.loop-i-test.true c.quarter_one-t.ensures.0 c.quarter_one-t.ensures.1

pub returns : goal.returns
returns c =
    record {
      q_len = c.loop-i.invariant.kept;
      nan_after = counted_all c.loop-i.invariant (omega arith);
    }
