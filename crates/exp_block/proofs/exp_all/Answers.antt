-- `exp_block::exp_all` meets its contract. Assumes nothing.
use borrow.Author.Rules.{rules}
use native.Mathlib.Omega.{arith}
use mathlib.Core.Path.{◌≡◌}
use Prim.Native.Nat.{◌-◌, ◌≤◌}
use lib.ListN.{length, length-set, get_or}
use lib.Ieee.{nan}
use Rattle.det.specs.Single.{expf_of}
use Rattle.blocks.proofs.Block.{Tabled, tabled_next, tabled_all}
use Rattle.exp_block.proofs.exp_all.Goals as goal

pub loop-i-init : goal.loop-i-init
loop-i-init c = (omega arith, omega arith, c.requires.out_len.0, c.requires.out_len.1)

pub exp_one-requires : goal.exp_one-requires
exp_one-requires c = c.requires.first_bound.1 c.loop-i.i c.loop-i.invariant.0 c.loop-i-test.true

pub loop-i-preserved : goal.loop-i-preserved
loop-i-preserved c =
    let inv = c.loop-i.invariant in
    (omega arith, omega arith, rw length-set inv.2, tabled_next inv.3 (omega arith) c.exp_one.ensures)

pub returns : goal.returns
returns c = (c.loop-i.invariant.2, tabled_all c.loop-i.invariant.3 (omega arith))
