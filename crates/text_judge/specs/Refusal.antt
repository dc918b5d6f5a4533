-- The numbers that refuse a text before its score call is made.
use Rattle.std.specs.Prelude.{ℕ, zero, suc, List, [], ◌∷◌, Bool, true, false, cond, length, ltb}
use Rattle.text_digits.specs.Read.{Read, got, broken}
use Rattle.text_read.specs.Notes.{count_of}
use Rattle.text_read.specs.Text.{Text, text_of}

-- whether some line is not of its form, missing or one too many
abbrev pub form_broken : Read Text → Bool
form_broken broken = true
form_broken (got t rest) = false

-- "n above 2,048 or notes above 256"
abbrev pub too_large : Read Text → Bool
too_large broken = false
too_large (got t rest) = cond (ltb 2048 t.numbers.n) true (ltb 256 (count_of t.notes))

-- a test, and the number that refuses a text where it holds; a text's refusals have no place in a library call's `Refusal`
pub record TextTest : Type 0 where
  pub holds : Bool
  pub number : ℕ

infix 50 ◌⇒#◌
abbrev pub ◌⇒#◌ : Bool → ℕ → TextTest
test ⇒# number = record { holds = test; number = number }

-- the number of the first test that holds, 0 where none does
abbrev pub first_number : List TextTest → ℕ
first_number [] = 0
first_number (t ∷ ts) = cond t.holds t.number (first_number ts)

-- "text only, before all others: 16 input above 65,536 bytes; 15 some line not of its form, a line missing or one too many; 16 n above 2,048 or notes above 256"
abbrev pub text_tests : List ℕ → List TextTest
text_tests text = (ltb 65536 (length text) ⇒# 16) ∷ (form_broken (text_of text) ⇒# 15) ∷ (too_large (text_of text) ⇒# 16) ∷ []

-- the number by which a text is refused before its score call is made, 0 where it is not
unfoldable pub text_refusal : List ℕ → ℕ
text_refusal text = first_number (text_tests text)

-- x, unless a number that is not 0 refuses the text: then what `refused` makes of the number
abbrev pub unless_refused : {X : Type 0} → (ℕ → X) → ℕ → X → X
unless_refused refused zero x = x
unless_refused refused (suc number) x = refused (suc number)
