-- The loops of `voice_bass::bass_note`.
use Prim.Native.Nat.{◌-◌}
use mathlib.Core.Path.{◌≡◌, refl, ap, ◌∙◌}
use native.Mathlib.Omega.{arith}
use borrow.Author.Rules.{rules}
use lib.ListN.{length}
use Rattle.laws.proofs.Fill.{Filled, filled_none, filled_frames, filled_length}
use Rattle.dsl.specs.Pitch.{pitch_at}
use Rattle.dsl.proofs.Reach.{reaches_less}
use lib.Ieee.{Float}
use Rattle.frame_block.specs.Decay.{decay_at}
use Rattle.voice_bass.specs.Block.{bass_by}
use Rattle.voice_bass.proofs.Bass.{read_at, read_is, by_readings}
use Rattle.voice_bass.proofs.bass_note.Given as goal

abbrev pub invariant-loop-i : goal.invariant-loop-i
invariant-loop-i l =
    (length l.a ≡ 64) × (length l.e ≡ 64) × Filled (λ i. bass_by (read_at l.bass l.gain l.srf i) (pitch_at l.pitch l.lane i) l.bass l.srf)
    (λ r. r.sample) (λ r. r.state) l.initial.s l.initial.out l.i-counter l.out l.s

abbrev pub decreases-loop-i : goal.decreases-loop-i
decreases-loop-i l = length l.initial.out - l.i-counter
