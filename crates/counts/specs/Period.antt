-- "The string period is rate / clamp(first pitch, 20, rate / 2), divided in f32, rounded half away from zero, at least 2."
use Rattle.std.specs.Prelude.{ℕ, max, Float}
use Rattle.std.specs.Float.Ieee.{to_unsigned}
use Rattle.ieee.specs.Numbers.{c2, c20, f32}
use Rattle.ieee.specs.Binary32.{◌⊘◌}
use Rattle.ieee.specs.Order.{clamp_of}
use Rattle.ieee.specs.Whole.{round_of}

unfoldable pub period_of : ℕ → Float → ℕ
period_of rate first = max (to_unsigned 64 (round_of (f32 rate ⊘ clamp_of first c20 (f32 rate ⊘ c2)))) 2
