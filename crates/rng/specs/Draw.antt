-- The f32 draws, of the top 24 bits k of a `next_u64`. `exactly s q l` is ± q / 2 ^ l with no rounding.
use Rattle.std.specs.Prelude.{ℕ, ◌-◌, ◌/◌, ◌^◌, true, false, cond, nat_lt, Float}
use Rattle.ieee.specs.Whole.{exactly}
use Rattle.rng.specs.SplitMix64.{next}

-- k / 2^24
unfoldable pub unit_of : ℕ → Float
unit_of k = exactly false k 24

-- "`bi()` of the top 24 bits k is exactly k / 2^23 − 1": of k below 2^23 that is − (2^23 − k) / 2^23, of any other (k − 2^23) / 2^23
unfoldable pub bi_of : ℕ → Float
bi_of k = cond (nat_lt k (2 ^ 23)) (exactly true (2 ^ 23 - k) 23) (exactly false (k - 2 ^ 23) 23)

-- `unit` and `bi` from the generator's state s: the top 24 bits of the next draw
abbrev pub unit_from : ℕ → Float
unit_from s = unit_of (next s / 2 ^ 40)

abbrev pub bi_from : ℕ → Float
bi_from s = bi_of (next s / 2 ^ 40)
