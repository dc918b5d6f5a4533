-- `voice_waves::modulated::copy` meets its contract. Assumes nothing.
use native.Mathlib.Omega.{arith}
use Prim.Native.Nat.{◌-◌}
use mathlib.Core.Path.{refl}
use lib.ListN.{get_or}
use lib.Ieee.{nan}
use Rattle.blocks.proofs.Carried.{Storing, storing_none, storing_more, storing_length, storing_all}
use borrow.Author.Rules.{rules}
use Rattle.voice_waves.proofs.modulated.copy.Goals as goal

pub loop-k-init : goal.loop-k-init
loop-k-init c = storing_none

pub bounds-out-from : goal.bounds-out-from
bounds-out-from c = let l = c.loop-k-test.true in omega (arith, storing_length c.loop-k.invariant)

pub loop-k-preserved : goal.loop-k-preserved
loop-k-preserved c = storing_more c.loop-k.invariant c.loop-k-test.true refl

pub shape_of-out : goal.shape_of-out
shape_of-out c = storing_length c.loop-k.invariant

pub returns : goal.returns
returns c = storing_all c.loop-k.invariant c.loop-k-test.false
