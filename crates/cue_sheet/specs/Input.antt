-- What `cue_sheet` makes of its input.
use Rattle.std.specs.Prelude.{ℕ, ◌≤◌, ◌≡◌, List, length, take, Err, Ok, Result}
use Rattle.text_listing.specs.Lines.{printed_r}
use Rattle.programs.specs.Counts.{bytes_out}
use Rattle.text_judge.specs.Refusal.{text_refusal}
use Rattle.text_sheet.specs.TextSheet.{SheetResult, refused, accepted, text_sheet, SheetPrinted}

-- how many bytes of the page go out
abbrev pub written : Result ℕ ℕ → ℕ
written said = bytes_out said

-- The input stands at the start of `score`, as far as it fits, and its sheet at the start of `page`, of which the first `written said` bytes go out. A page of 18,692 bytes or
-- more is never too short (the law `never_short` of text_sheet).
pub record InputPrinted (score page₀ : List ℕ) (said : Result ℕ ℕ) (page : List ℕ) : Type 0 where
  pub read : ℕ
  pub within : read ≤ length score
  -- An input that fills `score`, of which more may follow, is one of "input above 65,536 bytes".
  pub full : read ≡ length score → text_refusal (take read score) ≡ 16
  pub printed : SheetPrinted (text_sheet (take read score) 18692) page₀ said page

-- what goes out: the sheet, or the R line of what refuses the score
abbrev pub shown : Result ℕ ℕ → List ℕ → List ℕ
shown (Ok n) page = take n page
shown (Err number) page = printed_r number

-- what goes out for a text
abbrev pub shown_sheet : SheetResult → List ℕ
shown_sheet (refused number) = printed_r number
shown_sheet (accepted sheet) = sheet

unfoldable pub sheet_lines : List ℕ → List ℕ
sheet_lines text = shown_sheet (text_sheet text 18692)

-- What was read are the first `read` bytes of `score`; their sheet stands at the start of `page`, and what goes out is theirs.
pub record ReadPrinted (score : List ℕ) (read : ℕ) (page₀ : List ℕ) (said : Result ℕ ℕ) (page : List ℕ) : Type 0 where
  pub within : read ≤ length score
  pub full : read ≡ length score → text_refusal (take read score) ≡ 16
  pub printed : SheetPrinted (text_sheet (take read score) 18692) page₀ said page
  pub lines : shown said page ≡ sheet_lines (take read score)
