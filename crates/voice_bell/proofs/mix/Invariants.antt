-- The loops of `voice_bell::mix`.
use native.Mathlib.Omega.{arith}
use Prim.Native.Nat.{◌-◌}
use Rattle.blocks.proofs.Carried.{Storing, storing_none, storing_more, storing_length, storing_all}
use Rattle.voice_bell.specs.Block.{bell_mix_at}
use borrow.Author.Rules.{rules}
use Rattle.voice_bell.proofs.mix.Given as goal

abbrev pub invariant-loop-k : goal.invariant-loop-k
invariant-loop-k l = Storing (bell_mix_at l.s l.e0 l.e1 l.e2 l.e3 l.e4) l.from l.n l.k l.initial.out l.out
