-- What the contracts of the programs' counts cite.
use Rattle.std.specs.Prelude.{◌≡◌, ℕ, ◌≤◌, List, length, take, Err, Ok, Result}

-- `&xs[..n]` is in bounds and has n bytes. The second part follows from the first, and spares a caller's `&buf[..n]` a proof file.
abbrev pub IsPrefixLen : ℕ → List ℕ → Type 0
IsPrefixLen n xs = (n ≤ length xs) × (n ≡ length (take n xs))

-- how many bytes of a buffer go out for an answer: none where it is a refusal's number
abbrev pub bytes_out : Result ℕ ℕ → ℕ
bytes_out (Ok n) = n
bytes_out (Err number) = 0
