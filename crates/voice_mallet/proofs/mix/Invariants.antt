-- The loops of `voice_mallet::mix`.
use native.Mathlib.Omega.{arith}
use Prim.Native.Nat.{◌-◌}
use Rattle.blocks.proofs.Carried.{Storing, storing_none, storing_more, storing_length, storing_all}
use Rattle.voice_mallet.specs.Block.{mallet_mix_at}
use borrow.Author.Rules.{rules}
use Rattle.voice_mallet.proofs.mix.Given as goal

abbrev pub invariant-loop-k : goal.invariant-loop-k
invariant-loop-k l = Storing (mallet_mix_at l.gain l.s l.e1 l.e2) l.from l.n l.k l.initial.out l.out
