-- A 64-bit word rotated left, as arithmetic.
use Rattle.std.specs.Prelude.{ℕ, ◌+◌, ◌-◌, ◌*◌, ◌/◌, ◌%◌, ◌^◌}

-- x below 2 ^ 64, by k places, k below 64: the 64 - k low digits move up by k places, and the k high digits come in below them
abbrev pub rotated : ℕ → ℕ → ℕ
rotated x k = x % 2 ^ (64 - k) * 2 ^ k + x / 2 ^ (64 - k)
