-- The generator after a piano's frames, and a note of no frames. Assumes nothing.
use Rattle.std.proofs.Common.{◌≡◌, ℕ, ◌^◌, ◌<◌, min, cond, List, [], ◌∷◌, length, sym, refl, ◌∙◌, arith}
use lib.Ieee.{Float}
use Rattle.laws.specs.Run.{state_at, samples}
use Rattle.laws.proofs.Iterate.{part_iterated}
use Rattle.rng.specs.SplitMix64.{advance, state_after}
use Rattle.rng.proofs.States.{state_none}
use Rattle.osc.specs.Phase.{seconds}
use Rattle.counts.specs.Draws.{thumps, passing}
use Rattle.counts.proofs.Drawing.{draws_passing}
use Rattle.dsl.specs.declared.knobs.PianoKnobs.{PianoKnobs}
use Rattle.voice_piano.specs.Piano.{Piano, thump_end, piano_at, sound_frames, piano_frames}
use Rattle.voice_piano.specs.declared.wires.Pair.{Pair}

-- a draw for each frame in which the hammer is heard: pitch, knobs and gain do not enter
module _ (f : ℕ → Float) (srf : Float) (det : Pair) (norm : Float) (s : Piano) (n : ℕ) where
  pub sound_draws :
      s.rng < 2 ^ 64 → (state_at (λ i. piano_at (f i) srf det norm i) (λ r. r.sample) (λ r. r.state) s n).rng ≡ state_after s.rng (passing (λ i. thumps (seconds srf i)) n)
  unfolding piano_at thump_end
  sound_draws h =
      let draw : ℕ → ℕ → ℕ = λ i s. cond (thumps (seconds srf i)) (advance s) s in
      part_iterated (λ i. piano_at (f i) srf det norm i) (λ r. r.sample) (λ r. r.state) (λ (s : Piano). s.rng) draw (λ i s. refl) s n
      ∙ draws_passing (λ i. thumps (seconds srf i)) s.rng n h

module _ (f : ℕ → Float) (k : PianoKnobs) (gain srf : Float) (s : ℕ) where
  pub no_frames : (out : List Float) → length out ≡ 0 → out ≡ piano_frames f k gain srf s (length out)
  unfolding piano_frames sound_frames samples
  no_frames [] none = refl
  no_frames (x ∷ xs) none = absurd (omega arith)

pub no_draws : (s n h : ℕ) → s < 2 ^ 64 → n ≡ 0 → s ≡ state_after s (min n h)
no_draws s n h fits none =
    let z : min n h ≡ 0 = omega arith in
    rw z (sym (state_none s fits))
