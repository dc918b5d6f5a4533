-- The first `period` values of a string buffer l are lent twice: p is what the draws leave there, q what the ring leaves. Assumes nothing.
use Rattle.std.proofs.Common.{◌≡◌, ℕ, ◌≤◌, List, ◌++◌, length, take, drop, ap, ◌∙◌, length-take-le, take_at, drop_at}
use lib.Ieee.{Float}
use Rattle.rng.specs.SplitMix64.{state_after}
use Rattle.voice_noise.specs.Noise.{noise_frames}
use Rattle.voice_pluck.specs.Guitar.{timbre_of}
use Rattle.voice_pluck.specs.Pluck.{ring_frames, ring_after, pluck_frames, pluck_string}
use Rattle.voice_pluck.specs.declared.guitar.Timbre.{Timbre}
use Rattle.dsl.specs.declared.knobs.PluckKnobs.{PluckKnobs}
use Rattle.voice_noise.proofs.Draws.{noise_length}

module _ (l : List Float) (s period : ℕ) (fits : period ≤ length l) where
  pub state_drawn : {r : ℕ} → r ≡ state_after s (length (take period l)) → r ≡ state_after s period
  state_drawn e = e ∙ ap (state_after s) (length-take-le period l fits)

  module _ {p : List Float} (drawn : p ≡ noise_frames s (length (take period l))) where
    all_drawn : p ≡ noise_frames s period
    all_drawn = drawn ∙ ap (noise_frames s) (length-take-le period l fits)

    length_drawn : length p ≡ period
    length_drawn = ap length all_drawn ∙ noise_length s period

    -- what is lent the second time
    lent_drawn : take period (p ++ drop period l) ≡ noise_frames s period
    lent_drawn = take_at p (drop period l) period length_drawn ∙ all_drawn

    pub lent_length : period ≡ length (take period (p ++ drop period l))
    lent_length = rw (lent_drawn, noise_length)

    module _ (k : PluckKnobs) (g : Timbre) (srf : Float) (n : ℕ) (tuned : g ≡ timbre_of k.pluck_tone srf) where
      pub frames_rung : {out : List Float} → out ≡ ring_frames k g srf (take period (p ++ drop period l)) n → out ≡ pluck_frames k srf period s n
      frames_rung e = e ∙ rw (lent_drawn, tuned)

      -- the values past the period stay
      pub string_rung : {q : List Float} → q ≡ ring_after k g srf (take period (p ++ drop period l)) n → q ++ drop period (p ++ drop period l) ≡ pluck_string k srf period s n ++ drop period l
      string_rung e = rw (e, lent_drawn, tuned, drop_at p (drop period l) period length_drawn)
