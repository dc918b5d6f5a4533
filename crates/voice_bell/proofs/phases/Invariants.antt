-- The loops of `voice_bell::phases`.
use native.Mathlib.Omega.{arith}
use Prim.Native.Nat.{◌+◌, ◌-◌}
use mathlib.Core.Path.{refl}
use lib.Ieee.{nan}
use Rattle.blocks.proofs.Advanced.{Advanced, advanced_none, advanced_more, advanced_rows, advanced_state}
use Rattle.dsl.specs.Pitch.{pitch_at}
use Rattle.dsl.proofs.Reach.{reaches_less}
use Rattle.osc.specs.Phase.{increment}
use Rattle.voice_bell.specs.Bell.{bell_next}
use Rattle.voice_bell.specs.Block.{bell_turns}
use borrow.Author.Rules.{rules}
use Rattle.voice_bell.proofs.phases.Given as goal

abbrev pub invariant-loop-k : goal.invariant-loop-k
invariant-loop-k l = Advanced (λ k s. bell_next s (increment (pitch_at l.pitch l.lane (l.from + k)) l.srf)) l.initial.s bell_turns 6 nan 384 l.n l.k l.x l.s
