-- What the theorems speak of.
use Rattle.std.specs.Prelude.{ℕ, ◌<◌, ◌^◌, List, length, get_or}

-- each sample is a pattern of 32 bits, as those of a lent slice are; a NaN's is one like any other
abbrev pub Patterns : List ℕ → Type 0
Patterns samples = (i : ℕ) → i < length samples → get_or samples i 0 < 2 ^ 32
