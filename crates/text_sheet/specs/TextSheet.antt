-- The cue sheet of a text score (02, Card 7): "The call hands back the sheet's length in bytes, and the page buffer after it stays. It refuses a page buffer too short for the whole
-- sheet with 34, after 22."
use Rattle.std.specs.Prelude.{ℕ, ◌≡◌, List, ◌++◌, cond, length, drop, ltb, Ok, Err, Result}
use Rattle.outcome.specs.Answer.{number_of}
use Rattle.outcome.specs.Outcome.{Verdict}
use Rattle.score.specs.Score.{Score}
use Rattle.score.specs.Refusals.{refusal_at}
use Rattle.text_digits.specs.Read.{Read, got, broken}
use Rattle.text_read.specs.Text.{Text, seq_in, text_of}
use Rattle.text_judge.specs.Call.{call_of}
use Rattle.text_judge.specs.Refusal.{text_refusal, unless_refused}
use Rattle.cue_pages.specs.Sheet.{sheet_of}

-- a refusal's number, or the sheet's bytes
pub data SheetResult : Type 0 where
  refused : ℕ → SheetResult
  accepted : List ℕ → SheetResult

-- "a page buffer too short for the whole sheet": `room` is its length
abbrev pub sheet_fitting : ℕ → List ℕ → SheetResult
sheet_fitting room sheet = cond (ltb room (length sheet)) (refused 34) (accepted sheet)

-- a sheet, unless the score call is refused
abbrev pub sheet_unless : Verdict → SheetResult → SheetResult
sheet_unless (Ok _) r = r
sheet_unless (Err why) r = refused (number_of why)

-- the sheet of the score s, on a station at the draw d: 22 is the last of `refusal_at`
unfoldable pub score_sheet : ℕ → Score → ℕ → SheetResult
score_sheet room s d = sheet_unless (refusal_at s d) (sheet_fitting room (sheet_of s d))

-- of what was read, at the draw of its G line; a broken text's refusal is never 0
abbrev pub sheet_read : ℕ → Read Text → SheetResult
sheet_read room broken = refused 15
sheet_read room (got t rest) = score_sheet room (call_of (seq_in t) t.notes t.numbers.n) t.draw

unfoldable pub text_sheet : List ℕ → ℕ → SheetResult
text_sheet text room = unless_refused refused (text_refusal text) (sheet_read room (text_of text))

-- "The call hands back the sheet's length in bytes"
abbrev pub answer_of : SheetResult → Result ℕ ℕ
answer_of (refused number) = Err number
answer_of (accepted sheet) = Ok (length sheet)

-- "the page buffer after it stays"; a refused call changes no byte
abbrev pub page_after : List ℕ → SheetResult → List ℕ
page_after page (refused number) = page
page_after page (accepted sheet) = sheet ++ drop (length sheet) page

-- The contract of printing a sheet on `page₀`, which is left as `page`.
pub record SheetPrinted (result : SheetResult) (page₀ : List ℕ) (said : Result ℕ ℕ) (page : List ℕ) : Type 0 where
  pub answer : said ≡ answer_of result
  pub bytes : page ≡ page_after page₀ result
