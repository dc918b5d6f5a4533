-- Columns of a printed line: a text and spaces (bytes 32).
use Rattle.std.specs.Prelude.{ℕ, ◌-◌, List, [], ◌∷◌, ◌++◌, length, replicate, None, Option, Some}
use Rattle.text_listing.specs.Digits.{decimal_text}

abbrev pub spaces : ℕ → List ℕ
spaces n = replicate n 32

-- a text in so many columns, "right-aligned"
abbrev pub right : ℕ → List ℕ → List ℕ
right width text = spaces (width - length text) ++ text

-- and left-aligned, as "the name" is
abbrev pub left : ℕ → List ℕ → List ℕ
left width text = text ++ spaces (width - length text)

-- a number in decimal, or "a dash"
abbrev pub cell_text : Option ℕ → List ℕ
cell_text (Some v) = decimal_text v
cell_text None = 45 ∷ []
