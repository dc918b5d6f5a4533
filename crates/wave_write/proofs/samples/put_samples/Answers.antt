-- `wave_write::samples::put_samples` meets its contract. Assumes nothing.
use native.Mathlib.Omega.{arith}
use Prim.Native.Nat.{◌-◌}
use lib.ListN.{length}
use borrow.Author.Rules.{rules}
use Rattle.wave_write.proofs.Files.{Sampled, sampled_none, sampled_length, sampled_more, sampled_all}
use Rattle.wave_write.proofs.samples.put_samples.Goals as goal

pub loop-i-init : goal.loop-i-init
loop-i-init c = sampled_none c.requires

pub put_u32-requires : goal.put_u32-requires
put_u32-requires c = omega (arith, sampled_length c.requires c.loop-i.invariant)

pub loop-i-preserved : goal.loop-i-preserved
loop-i-preserved c =
    sampled_more c.requires c.loop-i.invariant (search rules) c.put_u32.ensures

pub shape_of-file : goal.shape_of-file
shape_of-file c = sampled_length c.requires c.loop-i.invariant

pub returns : goal.returns
returns c = sampled_all c.requires c.loop-i.invariant (search rules)
