-- What `wave_frames` makes of its input.
use Rattle.std.specs.Prelude.{ℕ, ◌≤◌, ◌≡◌, List, cond, length, take, ltb}
use Rattle.text_listing.specs.Lines.{printed_r, lines_of}
use Rattle.text_listing.specs.Printed.{Printed}
use Rattle.wave_file.specs.Refusal.{FileResult, refused, accepted}
use Rattle.wave_read.specs.Reading.{Wave}
use Rattle.wave_read.specs.Read.{read_result}

-- an F line for each sample, with its own bits, or the R line of what refuses the file
abbrev pub shown_read : FileResult Wave → List ℕ
shown_read (refused number) = printed_r number
shown_read (accepted w) = lines_of w.samples

-- There is room for 2,048 samples, and for a file of 65,536 bytes: a longer one gets 23 before it is judged.
unfoldable pub file_lines : List ℕ → List ℕ
file_lines file = cond (ltb 65536 (length file)) (printed_r 23) (shown_read (read_result file 2048))

-- The input stands at the start of `file`, as far as it fits, and its lines at the start of the page, of which the first `written` bytes go out.
pub record InputShown (file page₀ : List ℕ) (written : ℕ) (page : List ℕ) : Type 0 where
  pub read : ℕ
  pub within : read ≤ length file
  -- an input that fills `file`, of which more may follow, is too long
  pub full : read ≡ length file → file_lines (take read file) ≡ printed_r 23
  pub lines : Printed (file_lines (take read file)) 0 page₀ written page

-- What was read are the first `read` bytes of `file`; their lines stand at the start of the page, of which the first `written` bytes go out.
pub record ReadShown (file : List ℕ) (read : ℕ) (page₀ : List ℕ) (written : ℕ) (page : List ℕ) : Type 0 where
  pub within : read ≤ length file
  pub full : read ≡ length file → file_lines (take read file) ≡ printed_r 23
  pub lines : Printed (file_lines (take read file)) 0 page₀ written page
