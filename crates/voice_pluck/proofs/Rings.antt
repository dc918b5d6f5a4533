-- A string keeps its length while it sounds. Assumes nothing.
use Rattle.std.proofs.Common.{◌≡◌, ℕ, zero, suc, List, length, refl, ◌∙◌, length-set}
use lib.Ieee.{Float}
use Rattle.laws.specs.Run.{state_at}
use Rattle.dsl.specs.declared.knobs.PluckKnobs.{PluckKnobs}
use Rattle.voice_pluck.specs.Pluck.{ring_at, ring_after, pluck_string}
use Rattle.voice_pluck.specs.declared.guitar.Timbre.{Timbre}
use Rattle.voice_noise.proofs.Draws.{noise_length}

ring_length : (k : PluckKnobs) (g : Timbre) (srf : Float) (string : List Float) (n : ℕ) → length (ring_after k g srf string n) ≡ length string
unfolding ring_after state_at ring_at
ring_length k g srf string zero = refl
ring_length k g srf string (suc n) = rw length-set (ring_length k g srf string n)

-- what a note leaves of the string buffer before the values that stay
pub pluck_string_length : (k : PluckKnobs) (srf : Float) (period s n : ℕ) → length (pluck_string k srf period s n) ≡ period
pluck_string_length k srf period s n = ring_length k _ srf _ n ∙ noise_length s period
