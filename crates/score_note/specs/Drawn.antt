-- A generator after some draws, and how many they were. "`Rng`, the generator's state, is never taken for a draw count": the count stands beside it.
use Rattle.std.specs.Prelude.{ℕ}
use Rattle.rng.specs.SplitMix64.{state_after}
use Rattle.score_note.specs.declared.Drawn.{Drawn}

-- from the state g, d draws
abbrev pub drawn_from : ℕ → ℕ → Drawn
drawn_from g d = record { rng = record { 0 = state_after g d }; draws = d }
