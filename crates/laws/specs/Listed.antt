-- A function's values as a list.
use Rattle.std.specs.Prelude.{ℕ, zero, suc, List, [], ◌∷◌}

-- f k, f (k + 1), .., m of them
unfoldable pub listed_from : {Y : Type 0} → (ℕ → Y) → ℕ → ℕ → List Y
listed_from f zero k = []
listed_from f (suc m) k = f k ∷ listed_from f m (suc k)

-- the first m values of f
abbrev pub listed : {Y : Type 0} → (ℕ → Y) → ℕ → List Y
listed f m = listed_from f m 0
