-- The code's answers in the terms of the definitions: a value with the place after it in the bytes s is `got` with the bytes from that place on.
use Rattle.std.specs.Prelude.{ℕ, List, Option, Some, None, drop}
use Rattle.text_digits.specs.Read.{Read, got, broken}

-- the value is what was asked for, or stands in a lent slice
abbrev pub place_in : {A : Type 0} → List ℕ → A → Option ℕ → Read A
place_in s v (Some next) = got v (drop next s)
place_in s v None = broken

-- a number, a line's numbers, or another value that was read
abbrev pub value_in : {A : Type 0} → List ℕ → Option (A × ℕ) → Read A
value_in s (Some (v, next)) = got v (drop next s)
value_in s None = broken
