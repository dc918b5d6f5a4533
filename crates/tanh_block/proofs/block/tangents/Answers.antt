-- `tanh_block::block::tangents` meets its contract. Assumes nothing.
use native.Mathlib.Omega.{arith}
use mathlib.Core.Path.{◌≡◌}
use Prim.Native.Nat.{◌-◌, ◌≤◌}
use lib.ListN.{length, length-set, get_or}
use lib.Ieee.{nan}
use Rattle.blocks.proofs.Block.{Tabled, tabled_none, tabled_next, tabled_all}
use Rattle.tanh_block.specs.Inner.{tangent_of}
use borrow.Author.Rules.{rules}
use Rattle.tanh_block.proofs.block.tangents.Goals as goal

pub loop-i-init : goal.loop-i-init
loop-i-init c = (omega arith, c.requires.n_bound.1, tabled_none)

pub tangent_one-requires : goal.tangent_one-requires
tangent_one-requires c = c.requires.by_index c.loop-i.i c.loop-i-test.true

pub loop-i-preserved : goal.loop-i-preserved
loop-i-preserved c =
    let e : length c.loop-i.out ≡ 384 = c.loop-i.invariant.1 in
    let l = c.loop-i-test.true in
    (omega arith, rw length-set e, tabled_next c.loop-i.invariant.2 (omega (arith, c.requires.n_bound.0)) c.tangent_one.ensures)

pub returns : goal.returns
returns c =
    record {
      out_len = c.loop-i.invariant.1;
      tabled = tabled_all c.loop-i.invariant.2 (omega arith);
    }
