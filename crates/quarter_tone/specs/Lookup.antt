-- "a number q from 0 to 255 .. looked up in a fixed table of 256 frequencies": the pitch of a number, or nothing.
use Rattle.std.specs.Prelude.{ℕ, cond, ltb, Float, None, Option, Some}
use Rattle.quarter_tone.specs.Tones.{pattern_at, tone_at}

unfoldable pub tone_of : ℕ → Option Float
tone_of q = cond (ltb q 256) (Some (tone_at q)) None

-- its f32 bits, "written as a text score's floats"; 0 for nothing
unfoldable pub tone_bits : ℕ → ℕ
tone_bits q = cond (ltb q 256) (pattern_at q) 0
