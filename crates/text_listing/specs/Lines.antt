-- The lines that are printed: "Lines end in a newline, fields are parted by tabs".
use Rattle.std.specs.Prelude.{ℕ, zero, suc, ◌≡◌, List, [], ◌∷◌, ◌++◌, cond, length, get_or, Float}
use Rattle.std.specs.Float.{nan, binary32}
use Rattle.std.specs.Float.Ieee.{is_nan, to_bits}
use Rattle.text_listing.specs.Digits.{hex_text, decimal_text}

abbrev pub line_end : List ℕ
line_end = 10 ∷ []

-- a tab and a number
abbrev pub tabbed_text : List ℕ → List ℕ
tabbed_text number = 9 ∷ number

-- "G with the end state and draw count"
abbrev pub printed_g : ℕ → ℕ → List ℕ
printed_g state draw = (71 ∷ []) ++ (tabbed_text (hex_text 16 state) ++ (tabbed_text (decimal_text draw) ++ line_end))

-- "one F line a frame, index and bits"
abbrev pub printed_f : ℕ → ℕ → List ℕ
printed_f index bits = (70 ∷ []) ++ (tabbed_text (decimal_text index) ++ (tabbed_text (hex_text 8 bits) ++ line_end))

-- "R, a tab, the number, a newline"
abbrev pub printed_r : ℕ → List ℕ
printed_r number = (82 ∷ []) ++ (tabbed_text (decimal_text number) ++ line_end)

-- "A NaN frame is printed as 7fc00000."
unfoldable pub frame_bits : Float → ℕ
frame_bits x = cond (is_nan x) 0x7fc00000 (to_bits binary32 x)

-- the lines of the first n bit patterns
unfoldable pub pattern_lines : ℕ → (ℕ → ℕ) → List ℕ
pattern_lines zero bits = []
pattern_lines (suc n) bits = pattern_lines n bits ++ printed_f n (bits n)

-- the lines of the first n frames
abbrev pub frame_lines : ℕ → List Float → List ℕ
frame_lines n frames = pattern_lines n (λ i. frame_bits (get_or frames i nan))

-- of some patterns, each with its own bits
abbrev pub lines_of : List ℕ → List ℕ
lines_of bits = pattern_lines (length bits) (λ i. get_or bits i 0)

-- what an accepted score prints: "G with the end state and draw count, then one F line a frame"
abbrev pub listing_of : ℕ → ℕ → List Float → List ℕ
listing_of state draw frames = printed_g state draw ++ frame_lines (length frames) frames

-- the length of the lines of n frames, whatever they hold, and of a listing of n frames after `draw` draws
pub record LinesLength (n r : ℕ) : Type 0 where
  pub is : (bits : ℕ → ℕ) → r ≡ length (pattern_lines n bits)

pub record ListingLength (draw n r : ℕ) : Type 0 where
  pub is : (state : ℕ) (frames : List Float) → length frames ≡ n → r ≡ length (listing_of state draw frames)
