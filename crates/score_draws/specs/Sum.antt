-- A sum D, none where it passes what is left: 22's test, with no number that overflows.
use Rattle.std.specs.Prelude.{ℕ, cond, ltb, None, Option, Some}

abbrev pub sum_of : ℕ → ℕ → Option ℕ
sum_of left D = cond (ltb left D) None (Some D)
