-- The loop of `kit_parts::hit::hit_frames`.
use mathlib.Core.Path.{◌≡◌}
use lib.ListN.{length}
use Rattle.laws.proofs.Fill.{Filled}
use Rattle.kit_parts.proofs.hit.hit_frames.Given as goal

abbrev pub invariant-loop-i : goal.invariant-loop-i
invariant-loop-i g l =
    (length l.a ≡ 64) × Filled (λ i. g.H.Hit.frame_by l.hit (g.H.Hit.level_at l.hit i) i) (λ r. r.sample) (λ r. r.state) l.initial.s l.initial.out l.i-counter l.out l.s
