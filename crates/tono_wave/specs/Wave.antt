-- What the C calls on WAVE files return and leave: the length or the count, else minus the number; the rate's place is written only by an accepted read.
use Rattle.std.specs.Prelude.{ℕ, ◌≡◌, List, length, ℤ, pos, neg_ℤ}
use Rattle.wave_file.specs.Refusal.{FileResult, refused, accepted}
use Rattle.wave_write.specs.Write.{write_result, file_after}
use Rattle.wave_read.specs.Reading.{Wave}
use Rattle.wave_read.specs.Read.{read_result, samples_after}

-- the number that C gets
abbrev pub file_return : {A : Type 0} → (A → ℕ) → FileResult A → ℤ
file_return size (refused number) = neg_ℤ (pos number)
file_return size (accepted a) = pos (size a)

pub record WriteReturned (rate : ℕ) (samples file₀ : List ℕ) (said : ℤ) (file : List ℕ) : Type 0 where
  pub answer : said ≡ file_return length (write_result rate samples (length file₀))
  pub bytes : file ≡ file_after file₀ (write_result rate samples (length file₀))

abbrev pub count_of : Wave → ℕ
count_of w = length w.samples

-- what the rate's place holds; r is what it held before
abbrev pub rate_after : ℕ → FileResult Wave → ℕ
rate_after r (refused number) = r
rate_after r (accepted w) = w.rate

pub record ReadReturned (file : List ℕ) (rate₀ : ℕ) (samples₀ : List ℕ) (said : ℤ) (rate : ℕ) (samples : List ℕ) : Type 0 where
  pub answer : said ≡ file_return count_of (read_result file (length samples₀))
  pub place : rate ≡ rate_after rate₀ (read_result file (length samples₀))
  pub bits : samples ≡ samples_after samples₀ (read_result file (length samples₀))
