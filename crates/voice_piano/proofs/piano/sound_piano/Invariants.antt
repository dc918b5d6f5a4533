-- The loops of `voice_piano::piano::sound_piano`.
use Rattle.std.proofs.Common.{◌≡◌, ◌-◌, ◌^◌, ◌<◌, ◌≤◌, length, refl, ap, ◌∙◌, arith, rules}
use Rattle.laws.proofs.Fill.{Filled, filled_none, filled_length, filled_more_parts, filled_frames, filled_state}
use Rattle.dsl.specs.Pitch.{pitch_at}
use Rattle.dsl.proofs.Reach.{reaches_less}
use Rattle.voice_piano.specs.Piano.{Piano, heard, piano_at, sound_frames}
use Rattle.voice_piano.proofs.Sound.{sound_draws}
use Rattle.voice_piano.proofs.piano.sound_piano.Given as goal

abbrev pub invariant-loop-i : goal.invariant-loop-i
invariant-loop-i l =
    ((length l.x ≡ 384) × (length l.near ≡ 384) × (length l.q ≡ 384) × (length l.wide ≡ 384) × (length l.sines ≡ 384))
    × Filled (λ i. piano_at (pitch_at l.pitch l.lane i) l.srf l.det l.norm i) (λ r. r.sample) (λ r. r.state) (heard l.count l.initial.s) l.initial.out l.i l.out (heard l.count l.s)
