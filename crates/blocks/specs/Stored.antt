-- What loops over a block leave in a list.
use Rattle.std.specs.Prelude.{ℕ, zero, suc, ◌+◌, List, [], ◌∷◌, set}

-- `of 0` to `of (n - 1)` from place `from` on
unfoldable pub stored : {Y : Type 0} → (ℕ → Y) → ℕ → ℕ → List Y → List Y
stored of from zero l = l
stored of from (suc n) l = set (stored of from n l) (from + n) (of n)

-- the values vs from place a on
unfoldable pub written : {Y : Type 0} → List Y → ℕ → List Y → List Y
written l a [] = l
written l a (v ∷ vs) = written (set l a v) (a + 1) vs
