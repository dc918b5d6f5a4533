-- The loops of `harness::over_blocks::copy`.
use Prim.Native.Nat.{◌-◌}
use lib.Ieee.{nan}
use borrow.Author.Rules.{rules}
use Rattle.harness.proofs.Copies.{Copying, copying_none, copying_more, copying_all}
use Rattle.harness.proofs.over_blocks.copy.Given as goal

abbrev pub invariant-loop-i : goal.invariant-loop-i
invariant-loop-i l = Copying l.from l.initial.to l.n l.i l.to
