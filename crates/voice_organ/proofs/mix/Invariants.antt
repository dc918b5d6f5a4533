-- The loops of `voice_organ::mix`.
use native.Mathlib.Omega.{arith}
use Prim.Native.Nat.{◌-◌}
use Rattle.blocks.proofs.Carried.{Storing, storing_none, storing_more, storing_length, storing_all}
use Rattle.voice_organ.specs.Block.{organ_mix_at}
use borrow.Author.Rules.{rules}
use Rattle.voice_organ.proofs.mix.Given as goal

abbrev pub invariant-loop-k : goal.invariant-loop-k
invariant-loop-k l = Storing (organ_mix_at l.bars l.norm l.s l.p l.e) l.from l.n l.k l.initial.out l.out
