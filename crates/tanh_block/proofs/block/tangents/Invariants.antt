-- The loops of `tanh_block::block::tangents`.
use native.Mathlib.Omega.{arith}
use mathlib.Core.Path.{◌≡◌}
use Prim.Native.Nat.{◌-◌, ◌≤◌}
use lib.ListN.{length, length-set, get_or}
use lib.Ieee.{nan}
use Rattle.blocks.proofs.Block.{Tabled, tabled_none, tabled_next, tabled_all}
use Rattle.tanh_block.specs.Inner.{tangent_of}
use borrow.Author.Rules.{rules}
use Rattle.tanh_block.proofs.block.tangents.Given as goal

abbrev pub invariant-loop-i : goal.invariant-loop-i
invariant-loop-i l = (l.i ≤ l.n) × (length l.out ≡ 384) × Tabled (λ k. tangent_of (get_or l.x k nan) (get_or l.e k nan)) nan 0 l.i l.out
