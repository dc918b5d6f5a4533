-- A tempo map from words, four a point: the numerator's low and high word (two's complement), the denominator, the tempo's bits.
use Rattle.std.specs.Prelude.{ℕ, ◌+◌, ◌-◌, ◌*◌, ◌/◌, ◌^◌, min, List, ◌++◌, cond, ltb, length, get_or, drop, ℤ, pos, negsuc}
use Rattle.std.specs.Float.{binary32}
use Rattle.std.specs.Float.Ieee.{of_bits}
use Rattle.laws.specs.Listed.{listed}
use Rattle.tempo.specs.Map.{no_map}
use Rattle.tempo.specs.declared.map.TempoPoint.{TempoPoint}
use Rattle.tempo.specs.declared.map.TempoMap.{TempoMap}

-- two's complement: from 2^63 on a pattern stands for itself less 2^64
unfoldable pub signed_of : ℕ → ℕ → ℤ
signed_of low high = cond (ltb high (2 ^ 31)) (pos (high * 2 ^ 32 + low)) (negsuc (2 ^ 64 - 1 - (high * 2 ^ 32 + low)))

unfoldable pub point_in : List ℕ → ℕ → TempoPoint
point_in words i = record {
  at = record { num = signed_of (get_or words (i * 4) 0) (get_or words (i * 4 + 1) 0); den = get_or words (i * 4 + 2) 0 };
  bpm = of_bits binary32 (get_or words (i * 4 + 3) 0);
}

-- how many points there are; more than 64 count as 65
abbrev pub count_of : List ℕ → ℕ
count_of words = min (length words / 4) 65

-- Places past the points are those of a map of none.
unfoldable pub map_of : List ℕ → TempoMap
map_of words = record { points = listed (point_in words) (min (count_of words) 64) ++ drop (min (count_of words) 64) no_map.points; count = count_of words }
