-- The lines N: "then N step len pitch gain, none or more such lines, each of which may stop after pitch"; "A line N that stops after the pitch now means gain 0.5, bits 3f000000" (02, Card 5).
use Rattle.std.specs.Prelude.{ℕ, zero, suc, ◌/◌, ◌≤◌, ◌≡◌, List, [], ◌∷◌, Option, Some, None, cond, length, get_or, ltb}
use Rattle.text_digits.specs.Read.{Read, got, broken, after}
use Rattle.text_lines.specs.Line.{float, word, line, before, stored_in}

abbrev pub form_n : List ℕ
form_n = word ∷ word ∷ float ∷ float ∷ []

abbrev pub form_short : List ℕ
form_short = word ∷ word ∷ float ∷ []

-- A note's five words: step, len, kind, pitch bits, gain bits. The kind is 0: "Text pitches are numbers, never curves."
abbrev pub words_of : List ℕ → ℕ → List ℕ
words_of vs gain = get_or vs 0 0 ∷ get_or vs 1 0 ∷ 0 ∷ get_or vs 2 0 ∷ gain ∷ []

-- the gain of a line that stops after pitch: the bits of 0.5
abbrev pub short_gain : ℕ
short_gain = 0x3f000000

-- the one form, or, where the bytes are not of it, the other
unfoldable pub either_form : {A : Type 0} → Read A → Read A → Read A
either_form (got v s) r = got v s
either_form broken r = r

unfoldable pub line_n : List ℕ → Read (List ℕ)
line_n s =
    either_form (after (line 78 form_n s) (λ vs rest. got (words_of vs (get_or vs 3 0)) rest))
    (after (line 78 form_short s) (λ vs rest. got (words_of vs short_gain) rest))

-- the words of at most so many lines, to the end of the bytes
unfoldable pub notes_up_to : ℕ → List ℕ → Read (List ℕ)
notes_up_to zero [] = got [] []
notes_up_to zero (b ∷ s) = broken
notes_up_to (suc most) [] = got [] []
notes_up_to (suc most) (b ∷ s) = after (line_n (b ∷ s)) (λ ws rest. before ws (notes_up_to most rest))

-- The words of all lines to the end. There are no more lines than bytes, so that the bound is never met: the law `notes_line` says that notes_of of bytes is a note and then notes_of of the rest.
unfoldable pub notes_of : List ℕ → Read (List ℕ)
notes_of s = notes_up_to (length s) s

-- how many notes some words are; the words are five to a note
abbrev pub count_of : List ℕ → ℕ
count_of ws = length ws / 5

abbrev pub counted : Read (List ℕ) → Option ℕ
counted (got ws rest) = Some (count_of ws)
counted broken = None

-- What a lent slice holds after a reader of notes: their words at its start, and after them what it held. Where they do not fit, or the form is broken, nothing changes.
abbrev pub words_after : Read (List ℕ) → List ℕ → List ℕ
words_after (got ws rest) words₀ = cond (ltb (length words₀) (length ws)) words₀ (stored_in ws words₀)
words_after broken words₀ = words₀

-- The contract of a reader of notes that is lent `words₀` and leaves `words`.
pub record Noted (notes : Read (List ℕ)) (words₀ : List ℕ) (answer : Option ℕ) (words : List ℕ) : Type 0 where
  pub count : answer ≡ counted notes
  pub stored : words ≡ words_after notes words₀

-- notes that were read, and whose words fit a slice
pub record Fitting (notes : Read (List ℕ)) (words : List ℕ) : Type 0 where
  pub ws : List ℕ
  pub rest : List ℕ
  pub is : notes ≡ got ws rest
  pub room : length ws ≤ length words
