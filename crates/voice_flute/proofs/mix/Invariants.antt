-- The loops of `voice_flute::mix`.
use native.Mathlib.Omega.{arith}
use Prim.Native.Nat.{◌-◌}
use Rattle.blocks.proofs.Carried.{Storing, storing_none, storing_more, storing_length, storing_all}
use Rattle.voice_flute.specs.Block.{flute_mix_at}
use borrow.Author.Rules.{rules}
use Rattle.voice_flute.proofs.mix.Given as goal

abbrev pub invariant-loop-k : goal.invariant-loop-k
invariant-loop-k l = Storing (flute_mix_at l.s l.b l.gain) l.from l.n l.k l.initial.out l.out
