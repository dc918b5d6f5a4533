-- Writing a file: what it comes to, and the contract.
use Rattle.std.specs.Prelude.{ℕ, ◌≡◌, List, ◌++◌, cond, length, drop, ltb, Err, Ok, Result}
use Rattle.wave_file.specs.Refusal.{FileResult, refused, accepted, part_of, number_of}
use Rattle.wave_file.specs.declared.refusal.FileRefusal.{FileRefusal}
use Rattle.wave_write.specs.Header.{wave_file}

-- "A file .. buffer too short gets 23, last; writing tests 1 and 2 first", of 01: "Rate 8,000 to 192,000. n at most 16,777,216". `room` is the file buffer's length.
unfoldable pub write_result : ℕ → List ℕ → ℕ → FileResult (List ℕ)
write_result rate samples room =
    cond (ltb rate 8000) (refused 1)
    (cond (ltb 192000 rate) (refused 1)
    (cond (ltb 16777216 (length samples)) (refused 2)
    (cond (ltb room (length (wave_file rate samples))) (refused 23)
    (accepted (wave_file rate samples)))))

-- the number or the length that an answer gives
abbrev pub written_in : Result ℕ FileRefusal → FileResult ℕ
written_in (Ok n) = accepted n
written_in (Err r) = refused (number_of r)

-- "a lent buffer past these stays"; a refused call changes nothing
abbrev pub file_after : List ℕ → FileResult (List ℕ) → List ℕ
file_after file (refused number) = file
file_after file (accepted bytes) = bytes ++ drop (length bytes) file

-- The contract of writing into `file₀`, which is left as `file`: "Writing hands back the file's length".
pub record Wrote (rate : ℕ) (samples file₀ : List ℕ) (said : Result ℕ FileRefusal) (file : List ℕ) : Type 0 where
  pub answer : written_in said ≡ part_of length (write_result rate samples (length file₀))
  pub bytes : file ≡ file_after file₀ (write_result rate samples (length file₀))
