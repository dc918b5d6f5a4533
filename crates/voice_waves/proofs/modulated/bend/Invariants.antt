-- The loops of `voice_waves::modulated::bend`.
use native.Mathlib.Omega.{arith}
use mathlib.Core.Path.{◌≡◌, refl}
use Prim.Native.Nat.{◌-◌, ◌≤◌}
use lib.ListN.{length, length-set}
use lib.Ieee.{nan}
use Rattle.blocks.proofs.Block.{Tabled, tabled_none, tabled_next, tabled_all}
use Rattle.voice_waves.specs.Block.{fm_bent_at}
use borrow.Author.Rules.{rules}
use Rattle.voice_waves.proofs.modulated.bend.Given as goal

abbrev pub invariant-loop-k : goal.invariant-loop-k
invariant-loop-k l = (l.k ≤ l.n) × (length l.x ≡ 384) × Tabled (fm_bent_at l.knobs l.gain l.c l.e l.s) nan 0 l.k l.x
