-- "The output starts as plus zeros; for each note the mixer is lent the frames of the output from start on and adds (sample × envelope) × grooved gain."
use Rattle.std.specs.Prelude.{ℕ, zero, suc, List, [], ◌∷◌, ◌++◌, length, take, drop, slice_index_or, Float}
use Rattle.std.specs.Float.{nan}
use Rattle.laws.specs.Update.{updated}
use Rattle.ieee.specs.Numbers.{c0}
use Rattle.ieee.specs.Binary32.{◌⊕◌, ◌⊗◌}
use Rattle.dsl.specs.declared.knobs.Adsr.{Adsr}
use Rattle.envelope.specs.Envelope.{adsr_at}

-- n plus zeros
unfoldable pub silence : ℕ → List Float
silence zero = []
silence (suc n) = silence n ++ (c0 ∷ [])

-- what frame i gains of a note's sample there at a level for each frame
abbrev pub gained_by : List Float → (ℕ → Float) → Float → ℕ → Float → Float
gained_by note level gain i y = y ⊕ slice_index_or note i nan ⊗ level i ⊗ gain

-- at the level of its envelope; len is the note's whole length
abbrev pub gained : List Float → Adsr → ℕ → ℕ → Float → ℕ → Float → Float
gained note env len rate gain = gained_by note (adsr_at env len rate) gain

-- the frames from the note's start on; those that the note does not reach stay
unfoldable pub mixed : List Float → Adsr → ℕ → ℕ → Float → List Float → List Float
mixed note env len rate gain out = updated (gained note env len rate gain) (length note) out

-- all frames; those before `start` stay
unfoldable pub mixed_at : ℕ → List Float → Adsr → ℕ → ℕ → Float → List Float → List Float
mixed_at start note env len rate gain out = take start out ++ mixed note env len rate gain (drop start out)
