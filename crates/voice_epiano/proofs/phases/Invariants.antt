-- The loops of `voice_epiano::phases`.
use native.Mathlib.Omega.{arith}
use Prim.Native.Nat.{◌+◌, ◌-◌}
use mathlib.Core.Path.{◌≡◌, refl, ap}
use lib.ListN.{length, length-set}
use lib.Ieee.{nan}
use Rattle.blocks.proofs.Block.{Tabled, tabled_none, tabled_next, tabled_all}
use Rattle.blocks.proofs.Advanced.{Advanced, advanced_none, advanced_more, advanced_rows, advanced_state}
use Rattle.dsl.specs.Pitch.{pitch_at}
use Rattle.dsl.proofs.Reach.{reaches_less}
use Rattle.osc.specs.Phase.{increment}
use Rattle.voice_epiano.specs.Block.{inner_turns, carrier_turn_of, epiano_next, epiano_reached}
use borrow.Author.Rules.{rules}
use Rattle.voice_epiano.proofs.phases.Given as goal

abbrev pub invariant-loop-k : goal.invariant-loop-k
invariant-loop-k l =
    Advanced (λ k s. epiano_next s (increment (pitch_at l.pitch l.lane (l.from + k)) l.srf)) l.initial.s inner_turns 2 nan 384 l.n l.k l.x l.s
    × (length l.c ≡ 64)
    × Tabled (λ k. carrier_turn_of (epiano_reached (pitch_at l.pitch l.lane) l.srf l.from l.initial.s k)) nan 0 l.k l.c
