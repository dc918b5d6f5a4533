-- The loops of `voice_cowbell::driven`.
use native.Mathlib.Omega.{arith}
use mathlib.Core.Path.{◌≡◌, refl}
use Prim.Native.Nat.{◌-◌, ◌≤◌}
use lib.ListN.{length, length-set, get_or}
use lib.Ieee.{nan}
use Rattle.ieee.specs.Binary32.{◌⊗◌}
use Rattle.blocks.proofs.Block.{Tabled, tabled_none, tabled_next, tabled_all}
use Rattle.voice_cowbell.specs.Cowbell.{c2·5}
use borrow.Author.Rules.{rules}
use Rattle.voice_cowbell.proofs.driven.Given as goal

abbrev pub invariant-loop-j : goal.invariant-loop-j
invariant-loop-j l = (l.j ≤ l.n) × (length l.x ≡ 384) × Tabled (λ k. c2·5 ⊗ get_or l.s k nan) nan 0 l.j l.x
