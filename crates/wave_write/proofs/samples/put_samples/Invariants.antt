-- The loops of `wave_write::samples::put_samples`.
use native.Mathlib.Omega.{arith}
use Prim.Native.Nat.{◌-◌}
use lib.ListN.{length}
use borrow.Author.Rules.{rules}
use Rattle.wave_write.proofs.Files.{Sampled, sampled_none, sampled_length, sampled_more, sampled_all}
use Rattle.wave_write.proofs.samples.put_samples.Given as goal

abbrev pub invariant-loop-i : goal.invariant-loop-i
invariant-loop-i l = Sampled l.samples l.i l.initial.file l.file
