-- What a kernel does with a block that is lent as slices.
use Rattle.std.specs.Prelude.{ℕ, min, List, ◌++◌, map, length, take, drop}

-- how many values there are to do: as many as are lent to read and to write, and at most a block's
abbrev pub fitting : {X : Type 0} → ℕ → List X → List X → ℕ
fitting most x out = min most (min (length x) (length out))

-- f of each of the first n of x, and from there on what stood in out
abbrev pub through : {X : Type 0} → (X → X) → ℕ → List X → List X → List X
through f n x out = map f (take n x) ++ drop n out
