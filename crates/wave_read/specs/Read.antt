-- Reading a file: what it comes to, and the contract.
use Rattle.std.specs.Prelude.{ℕ, Result, Ok, Err, ◌≡◌, List, ◌++◌, cond, length, drop, ltb}
use Rattle.wave_file.specs.Refusal.{FileResult, refused, accepted, part_of, number_of}
use Rattle.wave_file.specs.declared.refusal.FileRefusal.{FileRefusal}
use Rattle.wave_read.specs.Reading.{Wave, reading}
use Rattle.wave_read.specs.declared.read.Samples.{Samples}

-- "A .. sample buffer too short gets 23, last". `room` is the sample buffer's length.
unfoldable pub within : ℕ → FileResult Wave → FileResult Wave
within room (refused number) = refused number
within room (accepted w) = cond (ltb room (length w.samples)) (refused 23) (accepted w)

abbrev pub read_result : List ℕ → ℕ → FileResult Wave
read_result file room = within room (reading file)

-- what an answer says of an accepted file: its rate and "the number of samples"
pub record Extent : Type 0 where
  pub rate : ℕ
  pub count : ℕ

abbrev pub extent_of : Wave → Extent
extent_of w = record { rate = w.rate; count = length w.samples }

abbrev pub read_in : Result Samples FileRefusal → FileResult Extent
read_in (Ok s) = accepted (record { rate = s.rate; count = s.count })
read_in (Err r) = refused (number_of r)

-- "a lent buffer past these stays"; a refused call changes nothing
abbrev pub samples_after : List ℕ → FileResult Wave → List ℕ
samples_after samples (refused number) = samples
samples_after samples (accepted w) = w.samples ++ drop (length w.samples) samples

-- The contract of reading `file` into `samples₀`, which is left as `samples`.
pub record Reads (file samples₀ : List ℕ) (said : Result Samples FileRefusal) (samples : List ℕ) : Type 0 where
  pub answer : read_in said ≡ part_of extent_of (read_result file (length samples₀))
  pub bits : samples ≡ samples_after samples₀ (read_result file (length samples₀))
