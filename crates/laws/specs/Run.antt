-- What a loop over frames makes, by index. `step i s` is what frame i makes of the state s before it: its `sample`, and the `state` after it.
use Rattle.std.specs.Prelude.{ℕ, zero, suc, List, [], ◌∷◌, ◌++◌}

module _ {S O Y : Type 0} (step : ℕ → S → O) (sample : O → Y) (state : O → S) (start : S) where
  -- the state before frame i
  unfoldable pub state_at : ℕ → S
  state_at zero = start
  state_at (suc i) = state (step i (state_at i))

  -- frame i
  abbrev pub sample_at : ℕ → Y
  sample_at i = sample (step i (state_at i))

  -- the first n frames
  unfoldable pub samples : ℕ → List Y
  samples zero = []
  samples (suc n) = samples n ++ (sample_at n ∷ [])

-- the state after n turns of a loop whose turn i puts `step i s` for the state s
unfoldable pub iterate : {S : Type 0} → (ℕ → S → S) → S → ℕ → S
iterate step s zero = s
iterate step s (suc n) = step n (iterate step s n)
