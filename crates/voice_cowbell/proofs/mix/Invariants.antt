-- The loops of `voice_cowbell::mix`.
use native.Mathlib.Omega.{arith}
use mathlib.Core.Path.{◌≡◌}
use Prim.Native.Nat.{◌-◌, ◌≤◌}
use lib.ListN.{length, length-set}
use lib.Ieee.{nan}
use Rattle.blocks.proofs.Block.{Tabled, tabled_none, tabled_next, tabled_all}
use Rattle.voice_cowbell.specs.Block.{cowbell_mix_at}
use borrow.Author.Rules.{rules}
use Rattle.voice_cowbell.proofs.mix.Given as goal

abbrev pub invariant-loop-k : goal.invariant-loop-k
invariant-loop-k l = (l.k ≤ l.n) × (length l.z ≡ 64) × Tabled (cowbell_mix_at l.s l.e) nan 0 l.k l.z
