-- The WAVE file of a text score: its frames, a NaN as 7fc00000, at its rate. A refused score has none.
use Rattle.std.specs.Prelude.{ℕ, ◌≡◌, List, [], ◌∷◌, map, length, Err, Ok}
use Rattle.std.specs.Prelude as std
use Rattle.outcome.specs.Answer.{Result}
use Rattle.outcome.specs.Answer as answer
use Rattle.score.specs.declared.seq.Seq.{Seq}
use Rattle.tally.specs.Tally.{tally}
use Rattle.text_digits.specs.Read.{Read, got, broken}
use Rattle.text_read.specs.Text.{Text, seq_in, text_of}
use Rattle.text_listing.specs.Lines.{frame_bits}
use Rattle.text_judge.specs.Call.{call_of}
use Rattle.text_judge.specs.Refusal.{text_refusal, unless_refused}
use Rattle.wave_file.specs.Refusal.{FileResult, refused, accepted, part_of}
use Rattle.wave_write.specs.Write.{write_result, file_after}

-- a score call's result, written into a buffer of `room` bytes
abbrev pub result_file : ℕ → ℕ → Result → FileResult (List ℕ)
result_file rate room (answer.refused number) = refused number
result_file rate room (answer.accepted draws frames) = write_result rate (map frame_bits frames) room

-- of a list of one call
abbrev pub one_file : ℕ → ℕ → List Result → FileResult (List ℕ)
one_file rate room [] = refused 0
one_file rate room (r ∷ rs) = result_file rate room r

-- "what a list of its one score call gives, from the session that its G line opens"
unfoldable pub played_file : Seq → List ℕ → ℕ → ℕ → ℕ → ℕ → FileResult (List ℕ)
played_file seq notes n seed draw room = one_file seq.timing.rate room (tally seed draw (call_of seq notes n ∷ [])).results

-- the one score call of what was read; a broken text's refusal is never 0
abbrev pub file_read : ℕ → Read Text → FileResult (List ℕ)
file_read room broken = refused 15
file_read room (got t rest) = played_file (seq_in t) t.notes t.numbers.n t.seed t.draw room

unfoldable pub text_file : List ℕ → ℕ → FileResult (List ℕ)
text_file text room = unless_refused refused (text_refusal text) (file_read room (text_of text))

-- the number or the length that an answer gives
abbrev pub said_in : std.Result ℕ ℕ → FileResult ℕ
said_in (Ok n) = accepted n
said_in (Err number) = refused number

-- The contract of writing such a file into `file₀`, which is left as `file`.
pub record Filed (result : FileResult (List ℕ)) (file₀ : List ℕ) (said : std.Result ℕ ℕ) (file : List ℕ) : Type 0 where
  pub answer : said_in said ≡ part_of length result
  pub bytes : file ≡ file_after file₀ result
