-- The loops of `exp_block::exp_each`.
use borrow.Author.Rules.{rules}
use native.Mathlib.Omega.{arith}
use mathlib.Core.Path.{◌≡◌}
use Prim.Native.Nat.{◌-◌, ◌≤◌}
use lib.ListN.{length, length-set, get_or}
use lib.Ieee.{nan}
use Rattle.det.specs.Single.{expf_of}
use Rattle.blocks.proofs.Block.{Tabled, tabled_none, tabled_next, tabled_all}
use Rattle.exp_block.proofs.exp_each.Given as goal

abbrev pub invariant-loop-i : goal.invariant-loop-i
invariant-loop-i l = (l.i ≤ 64) × (length l.out ≡ 64) × Tabled (λ k. expf_of (get_or l.x k nan)) nan 0 l.i l.out
