-- The loops of `voice_cowbell::cowbell`.
use native.Mathlib.Omega.{arith}
use Prim.Native.Nat.{ℕ, ◌-◌, ◌≤◌}
use mathlib.Core.Path.{◌≡◌, refl}
use lib.ListN.{length}
use Rattle.blocks.proofs.Carried.{Carried, carried_none, carried_then, carried_all, carried_note}
use Rattle.dsl.specs.Pitch.{pitch_at}
use Rattle.dsl.proofs.Reach.{reaches_less}
use Rattle.voice_cowbell.specs.Cowbell.{cowbell_at, cowbell_frames}
use Rattle.voice_cowbell.proofs.Sounded.{cowbell_stored}
use borrow.Author.Rules.{rules}
use Rattle.voice_cowbell.proofs.cowbell.Given as goal

abbrev pub invariant-loop-i : goal.invariant-loop-i
invariant-loop-i l =
    (l.i ≤ length l.initial.out)
    × ((length l.x ≡ 384) × (length l.near ≡ 384) × (length l.q ≡ 384) × (length l.wide ≡ 384) × (length l.s ≡ 384))
    × ((length l.e ≡ 64) × (length l.z ≡ 64))
    × Carried (λ i (s : ℕ). cowbell_at (pitch_at l.pitch l.lane i) l.srf i) (λ r. r) (λ r. 0) 0 l.i l.initial.out 0 l.out 0

abbrev pub decreases-loop-i : goal.decreases-loop-i
decreases-loop-i l = length l.initial.out - l.i
