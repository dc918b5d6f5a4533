-- The loops of `voice_waves::pulse::square`.
use Prim.Native.Nat.{◌-◌}
use mathlib.Core.Path.{◌≡◌, refl, ◌∙◌}
use native.Mathlib.Omega.{arith}
use borrow.Author.Rules.{rules}
use lib.ListN.{length}
use Rattle.laws.proofs.Fill.{Filled, filled_none, filled_frames, filled_length}
use Rattle.dsl.specs.Pitch.{pitch_at}
use Rattle.dsl.proofs.Reach.{reaches_less}
use Rattle.voice_waves.specs.Block.{square_by}
use Rattle.voice_waves.proofs.Stepped.{read_at, read_is, square_frames_lem}
use Rattle.voice_waves.proofs.pulse.square.Given as goal

abbrev pub invariant-loop-i : goal.invariant-loop-i
invariant-loop-i l =
    (length l.f ≡ 64) × (length l.dt ≡ 64) × (length l.w ≡ 64)
    × Filled (λ i. square_by (read_at (pitch_at l.pitch l.lane) (pitch_at l.duty l.duties) l.srf i)) (λ r. r.sample) (λ r. r.state) l.initial.s l.initial.out l.i-counter l.out l.s

abbrev pub decreases-loop-i : goal.decreases-loop-i
decreases-loop-i l = length l.initial.out - l.i-counter
