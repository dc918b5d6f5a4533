-- The loops of `sin_block::block::turns`.
use native.Mathlib.Omega.{arith}
use Prim.Native.Nat.{◌-◌}
use lib.ListN.{get_or}
use lib.Ieee.{nan}
use mathlib.Core.Path.{◌≡◌}
use Rattle.trig.specs.Trig.{reduce2pi}
use Rattle.blocks.proofs.Counted.{Counted, counted_none, counted_more, counted_most, counted_table}
use borrow.Author.Rules.{rules}
use Rattle.sin_block.proofs.block.turns.Given as goal

abbrev pub invariant-loop-i : goal.invariant-loop-i
invariant-loop-i l = Counted (λ k y. y ≡ reduce2pi (get_or l.x k nan)) nan 384 l.n l.i l.bad l.near
