-- The loops of `voice_epiano::mix`.
use native.Mathlib.Omega.{arith}
use Prim.Native.Nat.{◌-◌}
use Rattle.blocks.proofs.Carried.{Storing, storing_none, storing_more, storing_length, storing_all}
use Rattle.voice_epiano.specs.Block.{epiano_mix_at}
use borrow.Author.Rules.{rules}
use Rattle.voice_epiano.proofs.mix.Given as goal

abbrev pub invariant-loop-k : goal.invariant-loop-k
invariant-loop-k l = Storing (epiano_mix_at l.s l.fade) l.from l.n l.k l.initial.out l.out
