-- `sin_block::block::narrowed` meets its contract. Assumes nothing.
use native.Mathlib.Omega.{arith}
use Prim.Native.Nat.{◌-◌}
use lib.ListN.{get_or}
use lib.Ieee.{nan}
use mathlib.Core.Path.{◌≡◌}
use Rattle.ieee.specs.Narrow.{narrow_of}
use Rattle.blocks.proofs.Counted.{Counted, counted_none, counted_more, counted_most, counted_table}
use borrow.Author.Rules.{rules}
use Rattle.sin_block.proofs.block.narrowed.Goals as goal

pub loop-i-init : goal.loop-i-init
loop-i-init c = counted_none c.requires.0 c.requires.1

pub bounds-wide-i : goal.bounds-wide-i
bounds-wide-i c = let l = c.loop-i-test.true in omega (arith, c.loop-i.invariant.room)

pub bounds-out-i : goal.bounds-out-i
bounds-out-i c = let l = c.loop-i-test.true in omega (arith, c.loop-i.invariant.room)

pub overflow_add-bad : goal.overflow_add-bad
overflow_add-bad c = omega (arith, counted_most c.loop-i.invariant, c.narrow_one-t.ensures.0)

pub loop-i-preserved : goal.loop-i-preserved
loop-i-preserved c =
    counted_more c.loop-i.invariant c.loop-i-test.true c.narrow_one-t.ensures.0 c.narrow_one-t.ensures.1

pub returns : goal.returns
returns c =
    record {
      out_len = c.loop-i.invariant.kept;
      tabled = counted_table c.loop-i.invariant (omega arith);
    }
