-- The loops of `voice_waves::modulated::phases`.
use native.Mathlib.Omega.{arith}
use native.Mathlib.Numerals.{add-one}
use Prim.Native.Nat.{◌+◌, ◌-◌, ◌≤◌}
use mathlib.Core.Path.{◌≡◌, refl, ap, ◌∙◌}
use lib.ListN.{length, length-set}
use lib.Ieee.{nan}
use Rattle.laws.specs.Run.{iterate}
use Rattle.blocks.proofs.Block.{Tabled, tabled_none, tabled_next, tabled_all}
use Rattle.dsl.specs.Pitch.{pitch_at}
use Rattle.dsl.proofs.Reach.{reaches_less}
use Rattle.osc.specs.Phase.{increment}
use Rattle.voice_waves.specs.Block.{modulator_turn_of, carrier_turn_of, fm_next, fm_reached}
use Rattle.voice_waves.specs.declared.modulated.FmState.{FmState}
use borrow.Author.Rules.{rules}
use Rattle.voice_waves.proofs.modulated.phases.Given as goal

abbrev pub invariant-loop-k : goal.invariant-loop-k
invariant-loop-k l =
    ((l.k ≤ l.n) × (length l.x ≡ 384) × (length l.c ≡ 384))
    × Tabled (λ k. modulator_turn_of (fm_reached (pitch_at l.pitch l.lane) l.knobs l.srf l.from l.initial.s k)) nan 0 l.k l.x
    × Tabled (λ k. carrier_turn_of (fm_reached (pitch_at l.pitch l.lane) l.knobs l.srf l.from l.initial.s k)) nan 0 l.k l.c
    × (l.s ≡ fm_reached (pitch_at l.pitch l.lane) l.knobs l.srf l.from l.initial.s l.k)
