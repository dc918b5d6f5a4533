-- Numbers as the replays write them.
use Rattle.std.specs.Prelude.{ℕ, List, ◌∷◌}
use Rattle.text_listing.specs.Digits.{hex_text}

-- a space, and the last `width` hexadecimal digits of n
abbrev pub spaced : ℕ → ℕ → List ℕ
spaced width n = 32 ∷ hex_text width n
