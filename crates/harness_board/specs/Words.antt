-- A board's operations as words: `0 place count byte..` a write, `1 place` a read, `2` a tick.
use Rattle.std.specs.Prelude.{ℕ, List, [], ◌∷◌, Bool, true, cond, ◌&&◌, length, take, drop, ltb, leb, eqb}

pub data Operation : Type 0 where
  write : ℕ → List ℕ → Operation
  read : ℕ → Operation
  tick : Operation

-- an operation and the words after it, or the end of the list: no word is left, the first operation is cut off, or it is none of these
pub data Next : Type 0 where
  next : Operation → List ℕ → Next
  stop : Next

unfoldable pub all_bytes : List ℕ → Bool
all_bytes [] = true
all_bytes (w ∷ ws) = ltb w 256 && all_bytes ws

-- a byte word above 255 makes the operation malformed
abbrev pub write_in : List ℕ → Next
write_in [] = stop
write_in (place ∷ []) = stop
write_in (place ∷ count ∷ ws) =
    cond (leb count (length ws)) (cond (all_bytes (take count ws)) (next (write place (take count ws)) (drop count ws)) stop) stop

abbrev pub read_in : List ℕ → Next
read_in [] = stop
read_in (place ∷ ws) = next (read place) ws

-- by the first word
abbrev pub next_by : ℕ → List ℕ → Next
next_by kind ws = cond (eqb kind 0) (write_in ws) (cond (eqb kind 1) (read_in ws) (cond (eqb kind 2) (next tick ws) stop))

unfoldable pub next_of : List ℕ → Next
next_of [] = stop
next_of (kind ∷ ws) = next_by kind ws
