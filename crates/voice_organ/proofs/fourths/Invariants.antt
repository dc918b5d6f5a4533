-- The loops of `voice_organ::fourths`.
use native.Mathlib.Omega.{arith}
use mathlib.Core.Path.{◌≡◌, refl}
use Prim.Native.Nat.{◌+◌, ◌-◌, ◌*◌, ◌≤◌}
use lib.ListN.{length, length-set, get_or}
use lib.Ieee.{nan}
use Rattle.blocks.proofs.Block.{Tabled, tabled_none, tabled_next, tabled_all}
use borrow.Author.Rules.{rules}
use Rattle.voice_organ.proofs.fourths.Given as goal

abbrev pub invariant-loop-k : goal.invariant-loop-k
invariant-loop-k l = (l.k ≤ l.n) × (length l.p ≡ 384) × Tabled (λ k. get_or l.s (k * 5 + 3) nan) nan 0 l.k l.p
