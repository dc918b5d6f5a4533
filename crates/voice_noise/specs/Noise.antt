-- `SeqWave::Noise` of `seq_note_signal`: a draw `bi` for each of n frames, from the generator's state s on.
use Rattle.std.specs.Prelude.{ℕ, List, Float}
use Rattle.laws.specs.Run.{samples}
use Rattle.rng.specs.SplitMix64.{advance}
use Rattle.rng.specs.Draw.{bi_from}

unfoldable pub noise_frames : ℕ → ℕ → List Float
noise_frames s n = samples (λ i s. s) bi_from advance s n
