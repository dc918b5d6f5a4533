-- The draws of a hit of the drum kit, from the arms of render/kit.rs: a drum draws in each frame, in none, or in those whose time is below a limit. Nothing but the style, the drum, the rate
-- and the frames is read.
use Rattle.std.specs.Prelude.{ℕ, min, Bool, true, false, Float}
use Rattle.std.specs.Float.Ieee.{lt}
use Rattle.ieee.specs.Numbers.{c0·002, c0·003, c0·004, c0·018}
use Rattle.dsl.specs.declared.kit.KitStyle.{KitStyle}
use Rattle.dsl.specs.declared.kit.KitStyle.TheVariants.{Classic, Acoustic, Electronic, Eight08}
use Rattle.drum.specs.declared.Drum.{Drum}
use Rattle.drum.specs.declared.Drum.TheVariants.{Kick, Snare, Rim, Clap, ClosedHat, OpenHat, Tom, Cowbell, Crash, Ride, Unmapped}
use Rattle.counts.specs.Draws.{frames_within}

-- ---- whether a frame draws, t = i as f32 / srf being its time

-- the kick's `if t < limit { .. rng.bi() .. }`; a cowbell has no noise; any other arm draws once
unfoldable pub draws_below : Float → Drum → Float → Bool
draws_below limit Kick t = lt t limit
draws_below limit Snare t = true
draws_below limit Rim t = true
draws_below limit Clap t = true
draws_below limit ClosedHat t = true
draws_below limit OpenHat t = true
draws_below limit (Tom above) t = true
draws_below limit Cowbell t = false
draws_below limit Crash t = true
draws_below limit Ride t = true
draws_below limit Unmapped t = true

abbrev pub classic_draws : Drum → Float → Bool
classic_draws = draws_below c0·002

abbrev pub acoustic_draws : Drum → Float → Bool
acoustic_draws = draws_below c0·018

abbrev pub electronic_draws : Drum → Float → Bool
electronic_draws = draws_below c0·003

-- its hats are of square waves, and its toms of a sine
unfoldable pub eight08_draws : Drum → Float → Bool
eight08_draws Kick t = lt t c0·004
eight08_draws Snare t = true
eight08_draws Rim t = lt t c0·003
eight08_draws Clap t = true
eight08_draws ClosedHat t = false
eight08_draws OpenHat t = false
eight08_draws (Tom above) t = false
eight08_draws Cowbell t = false
eight08_draws Crash t = true
eight08_draws Ride t = true
eight08_draws Unmapped t = true

abbrev pub draws_at : KitStyle → Drum → Float → Bool
draws_at Classic = classic_draws
draws_at Acoustic = acoustic_draws
draws_at Electronic = electronic_draws
draws_at Eight08 = eight08_draws

-- ---- how many frames do: a kick and the 808's rim for some milliseconds

-- ms × rate / 1000, rounded up, and no more than there are
abbrev pub frames_of : ℕ → ℕ → ℕ → ℕ
frames_of ms rate frames = min frames (frames_within ms 1000 rate)

unfoldable pub draws_within : ℕ → Drum → ℕ → ℕ → ℕ
draws_within ms Kick rate frames = frames_of ms rate frames
draws_within ms Snare rate frames = frames
draws_within ms Rim rate frames = frames
draws_within ms Clap rate frames = frames
draws_within ms ClosedHat rate frames = frames
draws_within ms OpenHat rate frames = frames
draws_within ms (Tom above) rate frames = frames
draws_within ms Cowbell rate frames = 0
draws_within ms Crash rate frames = frames
draws_within ms Ride rate frames = frames
draws_within ms Unmapped rate frames = frames

unfoldable pub eight08_within : Drum → ℕ → ℕ → ℕ
eight08_within Kick rate frames = frames_of 4 rate frames
eight08_within Snare rate frames = frames
eight08_within Rim rate frames = frames_of 3 rate frames
eight08_within Clap rate frames = frames
eight08_within ClosedHat rate frames = 0
eight08_within OpenHat rate frames = 0
eight08_within (Tom above) rate frames = 0
eight08_within Cowbell rate frames = 0
eight08_within Crash rate frames = frames
eight08_within Ride rate frames = frames
eight08_within Unmapped rate frames = frames

unfoldable pub kit_draws : KitStyle → Drum → ℕ → ℕ → ℕ
kit_draws Classic drum rate frames = draws_within 2 drum rate frames
kit_draws Acoustic drum rate frames = draws_within 18 drum rate frames
kit_draws Electronic drum rate frames = draws_within 3 drum rate frames
kit_draws Eight08 drum rate frames = eight08_within drum rate frames
