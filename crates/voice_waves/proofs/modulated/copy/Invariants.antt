-- The loops of `voice_waves::modulated::copy`.
use native.Mathlib.Omega.{arith}
use Prim.Native.Nat.{◌-◌}
use mathlib.Core.Path.{refl}
use lib.ListN.{get_or}
use lib.Ieee.{nan}
use Rattle.blocks.proofs.Carried.{Storing, storing_none, storing_more, storing_length, storing_all}
use borrow.Author.Rules.{rules}
use Rattle.voice_waves.proofs.modulated.copy.Given as goal

abbrev pub invariant-loop-k : goal.invariant-loop-k
invariant-loop-k l = Storing (λ k. get_or l.s k nan) l.from l.n l.k l.initial.out l.out
