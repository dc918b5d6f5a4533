-- The loops of `sin_block::block::sines`.
use native.Mathlib.Omega.{arith}
use mathlib.Core.Path.{◌≡◌}
use Prim.Native.Nat.{◌-◌, ◌≤◌}
use lib.ListN.{length, length-set, get_or}
use lib.Ieee.{nan}
use Rattle.blocks.proofs.Block.{Tabled, tabled_none, tabled_next, tabled_all}
use Rattle.ieee.specs.Binary64.{◌⊟◌, ◌⊠◌}
use Rattle.trig.specs.Trig.{FRAC·PI·2}
use Rattle.sin_block.specs.Quarter.{sine_at}
use borrow.Author.Rules.{rules}
use Rattle.sin_block.proofs.block.sines.Given as goal

abbrev pub invariant-loop-i : goal.invariant-loop-i
invariant-loop-i l = (l.i ≤ l.n) × (length l.out ≡ 384) × Tabled (λ k. sine_at (get_or l.q k nan) (get_or l.near k nan ⊟ get_or l.q k nan ⊠ FRAC·PI·2)) nan 0 l.i l.out
