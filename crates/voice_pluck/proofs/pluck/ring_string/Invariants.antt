-- The loops of `voice_pluck::pluck::ring_string`.
use Rattle.std.proofs.Common.{◌≡◌, ◌-◌, ◌<◌, length, refl, ap, arith, length-set, rules}
use borrow.Author.Rules.{scaled_Fits}
use Rattle.laws.proofs.Fill.{Filled, filled_none, filled_length, filled_more_parts, filled_frames, filled_state}
use Rattle.voice_pluck.specs.Pluck.{Ring, ring_at, ring_start, ring_frames, ring_after}
use Rattle.voice_pluck.proofs.pluck.ring_string.Given as goal

abbrev pub invariant-loop-i : goal.invariant-loop-i
invariant-loop-i l =
    Filled (ring_at l.k l.g l.srf) (λ r. r.sample) (λ r. r.state) (ring_start l.initial.string) l.initial.out l.i l.out (record { string = l.string; spos = l.spos; rest = l.s })
    × (length l.string ≡ length l.initial.string)
    × (l.spos < length l.initial.string)
