-- The loops of `voice_brass::brass_note`.
use Prim.Native.Nat.{◌-◌}
use mathlib.Core.Path.{◌≡◌, refl, ◌∙◌}
use native.Mathlib.Omega.{arith}
use borrow.Author.Rules.{rules}
use lib.ListN.{length}
use Rattle.laws.proofs.Fill.{Filled, filled_none, filled_frames, filled_length}
use Rattle.dsl.specs.Pitch.{pitch_at}
use Rattle.dsl.proofs.Reach.{reaches_less}
use Rattle.brass_opening.specs.Opening.{opening_at}
use Rattle.voice_brass.specs.Block.{brass_by}
use Rattle.voice_brass.proofs.Brass.{by_openings}
use Rattle.voice_brass.proofs.brass_note.Given as goal

abbrev pub invariant-loop-i : goal.invariant-loop-i
invariant-loop-i l =
    (length l.a ≡ 64)
    × Filled (λ i. brass_by (opening_at l.gain l.srf i) (pitch_at l.pitch l.lane i) l.srf) (λ r. r.sample) (λ r. r.state) l.initial.s l.initial.out l.i-counter l.out l.s

abbrev pub decreases-loop-i : goal.decreases-loop-i
decreases-loop-i l = length l.initial.out - l.i-counter
