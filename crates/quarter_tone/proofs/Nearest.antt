-- Every entry of the table is the f32 nearest to what is meant: one test that the checker computes over the whole table, the rule at each entry (`nearest_tone`), and the
-- same in the words of IEEE 754: no f32 lies nearer (`no_nearer`), and only this one is so (`only_nearest`). Assumes nothing.
use Prim.Native.Nat.{ℕ, ◌-◌, ◌/◌, ◌%◌, ◌^◌, ◌<◌}
use mathlib.Core.Path.{◌≡◌}
use mathlib.Core.Bool.{Bool, false}
use lib.Ieee.{Float, binary32}
use Rattle.ieee.specs.Nearest.{RoundsTo}
use Rattle.ieee.proofs.Unique.{ordered, rounds_unique}
use Rattle.quarter_tone.specs.Tones.{patterns, pattern_at, tone_at}
use Rattle.quarter_tone.specs.Rule.{midpoint, meant, NearestTone, exact_tone}
use Rattle.quarter_tone.proofs.Table.{between, lies_between, Passes, at}
use Rattle.quarter_tone.proofs.Amid.{Amid, powers_grow, amid_rounds}

-- ---- the rule: one computed test, carried to each entry
abbrev nearest : ℕ → Bool
nearest q = between (midpoint (pattern_at q - 1) ^ 24) (meant q) (midpoint (pattern_at q) ^ 24)

all_nearest : Passes nearest 256
unfolding patterns
all_nearest = record { computed = tt }

pub nearest_tone : (q : ℕ) → q < 256 → NearestTone q (pattern_at q)
nearest_tone q h = let l = lies_between (midpoint (pattern_at q - 1) ^ 24) (meant q) (midpoint (pattern_at q) ^ 24) (at all_nearest q h) in record { above = l.0; below = l.1 }

-- ---- no entry is the first or the last f32 of its binade
all_digits : Passes (λ q. between 0 (pattern_at q % 2 ^ 23) (2 ^ 23 - 1)) 256
unfolding patterns
all_digits = record { computed = tt }

all_fields : Passes (λ q. between 0 (pattern_at q / 2 ^ 23) 255) 256
unfolding patterns
all_fields = record { computed = tt }

pub amid_tone : (q : ℕ) → q < 256 → Amid (pattern_at q)
amid_tone q h = record {
  digits = lies_between 0 (pattern_at q % 2 ^ 23) (2 ^ 23 - 1) (at all_digits q h);
  field = lies_between 0 (pattern_at q / 2 ^ 23) 255 (at all_fields q h);
}

-- ---- in the words of IEEE 754
pub no_nearer : (q : ℕ) → q < 256 → RoundsTo binary32 (exact_tone q) false (tone_at q)
no_nearer q h = amid_rounds (pattern_at q) (amid_tone q h) q (nearest_tone q h)

pub only_nearest : (q : ℕ) → q < 256 → (x : Float) → RoundsTo binary32 (exact_tone q) false x → x ≡ tone_at q
only_nearest q h x r = rounds_unique binary32 (exact_tone q) false (ordered (meant q) (λ h. h ^ 24) powers_grow) r (no_nearer q h)
