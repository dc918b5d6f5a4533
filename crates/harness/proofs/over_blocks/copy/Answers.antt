-- `harness::over_blocks::copy` meets its contract. Assumes nothing.
use Prim.Native.Nat.{◌-◌}
use lib.Ieee.{nan}
use borrow.Author.Rules.{rules}
use Rattle.harness.proofs.Copies.{Copying, copying_none, copying_more, copying_all}
use Rattle.harness.proofs.over_blocks.copy.Goals as goal

pub loop-i-init : goal.loop-i-init
loop-i-init c = copying_none

pub loop-i-preserved : goal.loop-i-preserved
loop-i-preserved c =
    copying_more nan c.loop-i.invariant c.loop-i-test.true c.requires.0 c.requires.1

pub shape_of-to : goal.shape_of-to
shape_of-to c = c.loop-i.invariant.kept

pub returns : goal.returns
returns c = copying_all c.loop-i.invariant c.loop-i-test.false
