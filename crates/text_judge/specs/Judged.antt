-- What judging a text answers: the score that it says, or the number that refuses it.
use Rattle.std.specs.Prelude.{ℕ, ◌≡◌, List, cond, ltb, length, Err, Ok, Result}
use Rattle.text_read.specs.declared.text.TextScore.{TextScore}
use Rattle.text_digits.specs.Read.{Read, got, broken}
use Rattle.text_read.specs.Notes.{words_after}
use Rattle.text_read.specs.Text.{Text, text_of, text_score_of, notes_read}
use Rattle.text_judge.specs.Refusal.{text_refusal, unless_refused}

-- of what was read; a broken text's refusal is never 0
abbrev pub judged_read : Read Text → Result TextScore ℕ
judged_read broken = Err 15
judged_read (got t rest) = Ok (text_score_of t)

unfoldable pub judged : List ℕ → Result TextScore ℕ
judged text = unless_refused Err (text_refusal text) (judged_read (text_of text))

-- what the lent words then hold: nothing is read of a text that is too long
unfoldable pub words_left : List ℕ → List ℕ → List ℕ
words_left text words₀ = cond (ltb 65536 (length text)) words₀ (words_after (notes_read (text_of text)) words₀)

-- The contract of a judge of texts that is lent `words₀` and leaves `words`.
pub record Judges (text words₀ : List ℕ) (r : Result TextScore ℕ) (words : List ℕ) : Type 0 where
  pub answer : r ≡ judged text
  pub stored : words ≡ words_left text words₀
