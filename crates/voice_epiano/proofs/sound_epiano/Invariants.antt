-- The loops of `voice_epiano::sound_epiano`.
use native.Mathlib.Omega.{arith}
use Prim.Native.Nat.{◌-◌, ◌≤◌}
use mathlib.Core.Path.{◌≡◌, refl}
use lib.ListN.{length}
use Rattle.blocks.proofs.Carried.{Carried, carried_none, carried_then, carried_all, carried_note}
use Rattle.dsl.specs.Pitch.{pitch_at}
use Rattle.dsl.proofs.Reach.{reaches_less}
use Rattle.voice_epiano.specs.Epiano.{epiano_at}
use borrow.Author.Rules.{rules}
use Rattle.voice_epiano.proofs.sound_epiano.Given as goal

abbrev pub invariant-loop-i : goal.invariant-loop-i
invariant-loop-i l =
    (l.i ≤ length l.initial.out)
    × ((length l.x ≡ 384) × (length l.near ≡ 384) × (length l.q ≡ 384) × (length l.wide ≡ 384) × (length l.s ≡ 384))
    × ((length l.c ≡ 64) × (length l.soft ≡ 64) × (length l.ping ≡ 64) × (length l.fade ≡ 64))
    × Carried (λ i. epiano_at (pitch_at l.pitch l.lane i) l.gain l.srf l.decay i) (λ o. o.sample) (λ o. o.state) 0 l.i l.initial.out l.initial.state l.out l.state

abbrev pub decreases-loop-i : goal.decreases-loop-i
decreases-loop-i l = length l.initial.out - l.i
