-- What becomes of the counts that are lent.
use Rattle.std.specs.Prelude.{ℕ, List, cond, ltb, get_or, set}

-- the counts with that of station k taken from others; there is none above 7
abbrev pub placed : List ℕ → ℕ → List ℕ → List ℕ
placed counts k draws = cond (ltb 7 k) counts (set counts k (get_or draws k 0))
