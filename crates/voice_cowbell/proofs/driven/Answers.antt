-- `voice_cowbell::driven` meets its contract. Assumes nothing.
use native.Mathlib.Omega.{arith}
use mathlib.Core.Path.{◌≡◌, refl}
use Prim.Native.Nat.{◌-◌, ◌≤◌}
use lib.ListN.{length, length-set, get_or}
use lib.Ieee.{nan}
use Rattle.ieee.specs.Binary32.{◌⊗◌}
use Rattle.blocks.proofs.Block.{Tabled, tabled_none, tabled_next, tabled_all}
use Rattle.voice_cowbell.specs.Cowbell.{c2·5}
use borrow.Author.Rules.{rules}
use Rattle.voice_cowbell.proofs.driven.Goals as goal

pub loop-j-init : goal.loop-j-init
loop-j-init c = (omega arith, c.requires.1, tabled_none)

pub loop-j-preserved : goal.loop-j-preserved
loop-j-preserved c =
    let v = c.loop-j.invariant in
    (omega arith, rw length-set v.1, tabled_next v.2 (omega (arith, v.1)) refl)

pub returns : goal.returns
returns c = (c.loop-j.invariant.1, tabled_all c.loop-j.invariant.2 (omega arith))
