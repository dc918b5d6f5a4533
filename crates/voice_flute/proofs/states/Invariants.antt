-- The loops of `voice_flute::states`.
use native.Mathlib.Omega.{arith}
use Prim.Native.Nat.{◌+◌, ◌-◌}
use lib.Ieee.{nan}
use Rattle.blocks.proofs.Block.{tabled_frame}
use Rattle.ieee.specs.Numbers.{c0·15}
use Rattle.ieee.specs.Binary32.{◌⊗◌}
use Rattle.dsp.specs.Kernels.{TAU}
use Rattle.dsl.specs.Pitch.{pitch_at}
use Rattle.dsl.proofs.Reach.{reaches_less}
use Rattle.frame_block.specs.Decay.{decay_at}
use Rattle.voice_flute.specs.Block.{flute_next}
use Rattle.voice_flute.proofs.Flute.{PairTabled, pair_none, pair_more, pair_first, pair_second, pair_state}
use borrow.Author.Rules.{rules}
use Rattle.voice_flute.proofs.states.Given as goal

abbrev pub invariant-loop-k : goal.invariant-loop-k
invariant-loop-k l =
    PairTabled (λ k s. flute_next (decay_at l.srf c0·15 (l.from + k)) (pitch_at l.pitch l.lane (l.from + k)) l.srf l.lp_a s) l.initial.s (λ s. TAU ⊗ s.phase) (λ s. s.lp) nan 384 64 l.n l.k l.x l.b l.s
