-- How long a note is, and how much of it sounds.
use Rattle.std.specs.Prelude.{ℕ, ◌-◌, min, max, Bool, nat_le, Float}
use Rattle.std.specs.Float.Ieee.{to_unsigned}
use Rattle.ieee.specs.Numbers.{f32}
use Rattle.ieee.specs.Binary32.{◌⊗◌}
use Rattle.ieee.specs.Order.{min_of}

-- "Length = (len × samples per step, at most n) cut, at least 1."
unfoldable pub length_of : ℕ → Float → ℕ → ℕ
length_of len dur n = max (to_unsigned 64 (min_of (f32 len ⊗ dur) (f32 n))) 1

-- "A note with start ≥ n is skipped, any other is sounded."
abbrev pub skipped : ℕ → ℕ → Bool
skipped n start = nat_le n start

-- "Sounded frames = min(n − start, length)." Of a skipped note that is 0.
abbrev pub sounded_of : ℕ → ℕ → ℕ → ℕ
sounded_of n start length = min (n - start) length
