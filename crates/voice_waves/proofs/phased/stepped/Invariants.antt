-- The loop of `voice_waves::phased::stepped`.
use Rattle.std.proofs.Common.{◌≡◌, ◌-◌, length}
use Rattle.laws.proofs.Fill.{Filled}
use Rattle.dsl.specs.Pitch.{pitch_at}
use Rattle.osc.specs.Phase.{increment}
use Rattle.voice_waves.specs.Stepped.{StepsAs}
use Rattle.voice_waves.proofs.phased.stepped.Given as goal

abbrev pub invariant-loop-i : goal.invariant-loop-i
invariant-loop-i g l =
    (length l.f ≡ 64) × (length l.dt ≡ 64)
    × ((rule : _) → StepsAs (goal.F-post g l.by) rule
    → Filled (λ i. rule (increment (pitch_at l.pitch l.lane i) l.srf)) (λ r. r.sample) (λ r. r.state) l.initial.s l.initial.out l.i-counter l.out l.s)

abbrev pub decreases-loop-i : goal.decreases-loop-i
decreases-loop-i g l = length l.initial.out - l.i-counter
