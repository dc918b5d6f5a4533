-- `voice_waves::modulated::bend` meets its contract. Assumes nothing.
use native.Mathlib.Omega.{arith}
use mathlib.Core.Path.{◌≡◌, refl}
use Prim.Native.Nat.{◌-◌, ◌≤◌}
use lib.ListN.{length, length-set}
use lib.Ieee.{nan}
use Rattle.blocks.proofs.Block.{Tabled, tabled_none, tabled_next, tabled_all}
use Rattle.voice_waves.specs.Block.{fm_bent, fm_bent_at}
use borrow.Author.Rules.{rules}
use Rattle.voice_waves.proofs.modulated.bend.Goals as goal

pub loop-k-init : goal.loop-k-init
loop-k-init c = (omega arith, c.requires.1, tabled_none)

pub loop-k-preserved : goal.loop-k-preserved
unfolding fm_bent fm_bent_at
loop-k-preserved c =
    let v = c.loop-k.invariant in
    (omega (arith, c.loop-k-test.true), rw length-set v.1, tabled_next v.2 (omega (arith, v.1, c.loop-k-test.true, c.requires.0)) refl)

pub returns : goal.returns
returns c = (c.loop-k.invariant.1, tabled_all c.loop-k.invariant.2 (omega arith))
