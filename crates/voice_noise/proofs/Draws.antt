-- n frames of noise are n values, and leave the generator n draws on. Assumes nothing.
use Prim.Native.Nat.{ℕ, ◌^◌, ◌<◌}
use mathlib.Core.Path.{◌≡◌, refl, ◌∙◌}
use lib.ListN.{length}
use Rattle.laws.specs.Run.{state_at}
use Rattle.laws.proofs.Fill.{samples_length}
use Rattle.laws.proofs.Iterate.{part_iterated}
use Rattle.rng.specs.SplitMix64.{advance, state_after}
use Rattle.rng.specs.Draw.{bi_from}
use Rattle.rng.proofs.States.{draws_leave}
use Rattle.voice_noise.specs.Noise.{noise_frames}

pub noise_length : (s n : ℕ) → length (noise_frames s n) ≡ n
unfolding noise_frames
noise_length s n = samples_length (λ i s. s) bi_from advance s n

pub noise_draws : (s n : ℕ) → s < 2 ^ 64 → state_at (λ (i : ℕ) (s : ℕ). s) bi_from advance s n ≡ state_after s n
noise_draws s n h = part_iterated (λ (i : ℕ) (s : ℕ). s) bi_from advance (λ s. s) (λ i. advance) (λ i s. refl) s n ∙ draws_leave s n h
