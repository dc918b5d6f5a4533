-- The loops of `tanh_block::block::exps`.
use native.Mathlib.Omega.{arith}
use mathlib.Core.Path.{◌≡◌}
use Prim.Native.Nat.{◌-◌, ◌≤◌}
use lib.ListN.{length, length-set, get_or}
use lib.Ieee.{nan}
use Rattle.blocks.proofs.Block.{Tabled, tabled_none, tabled_next, tabled_all}
use Rattle.det.specs.Exp.{exp64}
use Rattle.tanh_block.specs.Inner.{twice}
use borrow.Author.Rules.{rules}
use Rattle.tanh_block.proofs.block.exps.Given as goal

abbrev pub invariant-loop-i : goal.invariant-loop-i
invariant-loop-i l = (l.i ≤ l.n) × (length l.e ≡ 384) × Tabled (λ k. exp64 (twice (get_or l.x k nan))) nan 0 l.i l.e
