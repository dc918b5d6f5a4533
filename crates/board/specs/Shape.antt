-- Which bytes of the block a write covers, and which write is taken.
use Rattle.std.specs.Prelude.{ℕ, ◌+◌, ◌*◌, ◌-◌, List, Bool, cond, ◌&&◌, ◌||◌, length, get_or, ltb, leb, eqb}

-- whether a write of n bytes at a place covers byte p of the block
abbrev pub covers : ℕ → ℕ → ℕ → Bool
covers place n p = leb place p && ltb p (place + n)

-- the byte that it puts at p, 0 where it does not cover p
unfoldable pub byte_for : ℕ → List ℕ → ℕ → ℕ
byte_for place bytes p = cond (covers place (length bytes) p) (get_or bytes (p - place) 0) 0

-- "Bytes 4 to 7 the sample .. queued when a write is just these four."
unfoldable pub is_sample : ℕ → List ℕ → Bool
is_sample place bytes = eqb place 4 && eqb (length bytes) 4

-- "f32 bits little-endian"
unfoldable pub sample_of : List ℕ → ℕ
sample_of bytes = get_or bytes 0 0 + 256 * get_or bytes 1 0 + 65536 * get_or bytes 2 0 + 16777216 * get_or bytes 3 0

-- Which other write is taken: not "an empty write or any other write to bytes 3 to 7, past the block",
abbrev pub inside : ℕ → ℕ → Bool
inside place n = ltb 0 n && leb (place + n) 3

-- nor "of a status byte with any bit but 1 set, of a mark above 63 or of a control above 3". A byte with no bit set but bit 1 is 0 or 2.
abbrev pub valid : ℕ → ℕ → ℕ → Bool
valid control status mark = leb control 3 && ((eqb status 0 || eqb status 2) && leb mark 63)

unfoldable pub permitted : ℕ → List ℕ → Bool
permitted place bytes = inside place (length bytes) && valid (byte_for place bytes 0) (byte_for place bytes 1) (byte_for place bytes 2)
