-- The loops of `sin_block::block::narrowed`.
use native.Mathlib.Omega.{arith}
use Prim.Native.Nat.{◌-◌}
use lib.ListN.{get_or}
use lib.Ieee.{nan}
use mathlib.Core.Path.{◌≡◌}
use Rattle.ieee.specs.Narrow.{narrow_of}
use Rattle.blocks.proofs.Counted.{Counted, counted_none, counted_more, counted_most, counted_table}
use borrow.Author.Rules.{rules}
use Rattle.sin_block.proofs.block.narrowed.Given as goal

abbrev pub invariant-loop-i : goal.invariant-loop-i
invariant-loop-i l = Counted (λ k y. y ≡ narrow_of (get_or l.wide k nan)) nan 384 l.n l.i l.bad l.out
