-- The loops of `sin_block::block::quarters`.
use native.Mathlib.Omega.{arith}
use Prim.Native.Nat.{◌-◌}
use lib.ListN.{get_or}
use lib.Ieee.{nan}
use mathlib.Core.Path.{◌≡◌}
use Rattle.ieee.specs.Binary64.{◌⊟◌, ◌⊠◌}
use Rattle.trig.specs.Trig.{FRAC·PI·2, sin_reduced}
use Rattle.sin_block.specs.Quarter.{sine_at}
use Rattle.blocks.proofs.Counted.{Counted, counted_none, counted_more, counted_most, counted_all}
use borrow.Author.Rules.{rules}
use Rattle.sin_block.proofs.block.quarters.Given as goal

abbrev pub invariant-loop-i : goal.invariant-loop-i
invariant-loop-i l = Counted (λ k y. sine_at y (get_or l.near k nan ⊟ y ⊠ FRAC·PI·2) ≡ sin_reduced (get_or l.near k nan)) nan 384 l.n l.i l.bad l.q
