-- The loops of `voice_organ::organ_note`.
use native.Mathlib.Omega.{arith}
use Prim.Native.Nat.{◌-◌, ◌≤◌}
use mathlib.Core.Path.{◌≡◌, refl}
use lib.ListN.{length}
use Rattle.blocks.proofs.Carried.{Carried, carried_none, carried_then, carried_all, carried_note}
use Rattle.dsl.specs.Pitch.{pitch_at}
use Rattle.dsl.proofs.Reach.{reaches_less}
use Rattle.voice_organ.specs.Organ.{organ_at}
use Rattle.voice_organ.proofs.Organ.{organ_frames_lem}
use borrow.Author.Rules.{rules}
use Rattle.voice_organ.proofs.organ_note.Given as goal

abbrev pub invariant-loop-i : goal.invariant-loop-i
invariant-loop-i l =
    (l.i ≤ length l.initial.out)
    × ((length l.x ≡ 384) × (length l.near ≡ 384) × (length l.q ≡ 384) × (length l.wide ≡ 384) × (length l.s ≡ 384))
    × ((length l.y ≡ 384) × (length l.p ≡ 384) × (length l.e ≡ 64))
    × Carried (λ i. organ_at l.bars l.norm (pitch_at l.pitch l.lane i) l.srf i) (λ o. o.sample) (λ o. o.state) 0 l.i l.initial.out l.initial.state l.out l.state

abbrev pub decreases-loop-i : goal.decreases-loop-i
decreases-loop-i l = length l.initial.out - l.i
