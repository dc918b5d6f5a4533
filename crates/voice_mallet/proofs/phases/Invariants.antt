-- The loops of `voice_mallet::phases`.
use native.Mathlib.Omega.{arith}
use Prim.Native.Nat.{◌+◌, ◌-◌}
use mathlib.Core.Path.{refl}
use lib.Ieee.{nan}
use Rattle.blocks.proofs.Advanced.{Advanced, advanced_none, advanced_more, advanced_rows, advanced_state}
use Rattle.dsl.specs.Pitch.{pitch_at}
use Rattle.dsl.proofs.Reach.{reaches_less}
use Rattle.osc.specs.Phase.{increment}
use Rattle.voice_mallet.specs.Block.{mallet_turns, mallet_next}
use borrow.Author.Rules.{rules}
use Rattle.voice_mallet.proofs.phases.Given as goal

abbrev pub invariant-loop-k : goal.invariant-loop-k
invariant-loop-k l = Advanced (λ k s. mallet_next s (increment (pitch_at l.pitch l.lane (l.from + k)) l.srf)) l.initial.s mallet_turns 3 nan 384 l.n l.k l.x l.s
