-- What `wave` makes of its input.
use Rattle.std.specs.Prelude.{ℕ, ◌≤◌, ◌≡◌, List, [], length, take, Err, Ok, Result}
use Rattle.programs.specs.Counts.{bytes_out}
use Rattle.text_judge.specs.Refusal.{text_refusal}
use Rattle.text_listing.specs.Lines.{printed_r}
use Rattle.wave_file.specs.Refusal.{FileResult, refused, accepted}
use Rattle.text_wave.specs.TextFile.{text_file, Filed}

-- how many bytes go out: "nothing for a refused score"
abbrev pub written : Result ℕ ℕ → ℕ
written said = bytes_out said

-- The input stands at the start of `score`, as far as it fits, and its file at the start of `file`, of which the first `written said` bytes go out. No room above 8,250
-- bytes makes another file (the law `room_enough` of text_wave).
pub record InputFiled (score file₀ : List ℕ) (said : Result ℕ ℕ) (file : List ℕ) : Type 0 where
  pub read : ℕ
  pub within : read ≤ length score
  -- An input that fills `score`, of which more may follow, is one of "input above 65,536 bytes".
  pub full : read ≡ length score → text_refusal (take read score) ≡ 16
  pub filed : Filed (text_file (take read score) 8250) file₀ said file

-- what goes to standard output
abbrev pub to_out : Result ℕ ℕ → List ℕ → List ℕ
to_out (Ok n) file = take n file
to_out (Err number) file = []

-- and what to standard error
abbrev pub to_err : Result ℕ ℕ → List ℕ → List ℕ
to_err (Ok n) file = []
to_err (Err number) file = printed_r number

-- the two for a text: its file, or the R line of what refuses the score
abbrev pub file_out : FileResult (List ℕ) → List ℕ
file_out (refused number) = []
file_out (accepted bytes) = bytes

abbrev pub line_err : FileResult (List ℕ) → List ℕ
line_err (refused number) = printed_r number
line_err (accepted bytes) = []

-- What was read are the first `read` bytes of `score`; their file stands at the start of `file`, and what goes out is theirs.
pub record ReadFiled (score : List ℕ) (read : ℕ) (file₀ : List ℕ) (said : Result ℕ ℕ) (file : List ℕ) : Type 0 where
  pub within : read ≤ length score
  pub full : read ≡ length score → text_refusal (take read score) ≡ 16
  pub filed : Filed (text_file (take read score) 8250) file₀ said file
  pub out : to_out said file ≡ file_out (text_file (take read score) 8250)
  pub err : to_err said file ≡ line_err (text_file (take read score) 8250)
