-- What the functions of the walk answer, in the terms of the definition.
use Rattle.std.specs.Prelude.{ℕ, Option, Some, None, Result, Ok, Err, ◌+◌, ◌*◌, ◌≤◌, ◌≡◌, List, length, drop}
use Rattle.wave_file.specs.Chunk.{ck_size}
use Rattle.wave_file.specs.Refusal.{FileResult, refused, accepted, number_of}
use Rattle.wave_file.specs.declared.refusal.FileRefusal.{FileRefusal}
use Rattle.wave_read.specs.Reading.{Wave, samples_in, data_chunk, chunk_in}
use Rattle.wave_read.specs.declared.chunks.Met.{Met}
use Rattle.wave_read.specs.declared.walk.Place.{Place}

-- a chunk is within the file, and its size is read
pub record Whole (file : List ℕ) (at size : ℕ) : Type 0 where
  pub fits : at + (8 + size) ≤ length file
  pub is : size ≡ ck_size (drop at file)

-- a chunk that comes before the samples, where `next` goes on behind it
abbrev pub met_in : Result Met FileRefusal → (Met → FileResult Wave) → FileResult Wave
met_in (Err r) next = refused (number_of r)
met_in (Ok met) next = next met

-- a step, where `next` goes on behind the chunk and `here` is what the data chunk comes to
abbrev pub step_in : Result (Option Met) FileRefusal → (Met → FileResult Wave) → FileResult Wave → FileResult Wave
step_in (Err r) next here = refused (number_of r)
step_in (Ok (Some met)) next here = next met
step_in (Ok None) next here = here

-- how far the file is known to reach
abbrev pub step_reach : Result (Option Met) FileRefusal → ℕ → ℕ
step_reach (Err r) end = 0
step_reach (Ok step) end = end

pub record Stepped (file : List ℕ) (at : ℕ) (met : Met) (step : Result (Option Met) FileRefusal) : Type 0 where
  pub is : (next : Met → FileResult Wave) → step_in step next (data_chunk met.rate met.count (drop at file)) ≡ chunk_in met (drop at file) next
  pub reach : step_reach step (at + (8 + ck_size (drop at file))) ≤ length file

-- what was found of a file
abbrev pub found_in : Result Place FileRefusal → List ℕ → FileResult Wave
found_in (Err r) file = refused (number_of r)
found_in (Ok p) file = accepted (record { rate = p.rate; samples = samples_in p.count (drop p.start file) })

abbrev pub found_reach : Result Place FileRefusal → ℕ
found_reach (Err r) = 0
found_reach (Ok p) = p.start + 4 * p.count

pub record Finds (file : List ℕ) (found : Result Place FileRefusal) (result : FileResult Wave) : Type 0 where
  pub is : found_in found file ≡ result
  pub reach : found_reach found ≤ length file
