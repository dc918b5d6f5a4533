-- Numbers in bytes: "little-endian", the lowest byte first.
use Rattle.std.specs.Prelude.{ℕ, zero, suc, ◌+◌, ◌*◌, ◌/◌, ◌%◌, ◌≡◌, List, [], ◌∷◌, ◌++◌, length, take, drop}

-- the lowest n bytes of v
unfoldable pub little_endian : ℕ → ℕ → List ℕ
little_endian zero v = []
little_endian (suc n) v = v % 256 ∷ little_endian n (v / 256)

-- the number that some bytes stand for
unfoldable pub number_in : List ℕ → ℕ
number_in [] = 0
number_in (b ∷ bs) = b + 256 * number_in bs

-- the number in the n bytes from the place `at` on
abbrev pub field_at : ℕ → ℕ → List ℕ → ℕ
field_at n at bs = number_in (take n (drop at bs))

-- The bytes stand at the place, and all others are as they were.
pub record Placed (bytes : List ℕ) (at : ℕ) (file₀ file : List ℕ) : Type 0 where
  pub is : file ≡ take at file₀ ++ (bytes ++ drop (at + length bytes) file₀)
