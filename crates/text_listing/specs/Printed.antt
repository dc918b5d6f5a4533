-- What printing into a lent slice asks and leaves.
use Rattle.std.specs.Prelude.{ℕ, ◌+◌, ◌*◌, ◌≤◌, ◌≡◌, List, ◌++◌, length, take, drop}

-- the bytes `text` at the place `at`; all others stay
unfoldable pub put : List ℕ → ℕ → List ℕ → List ℕ
put text at out = take at out ++ (text ++ drop (at + length text) out)

-- the text fits from the place on
pub record Room (text : List ℕ) (at : ℕ) (out : List ℕ) : Type 0 where
  pub fits : at + length text ≤ length out

-- the text stands at the place, and the next place is the one after it
pub record Printed (text : List ℕ) (at : ℕ) (out₀ : List ℕ) (next : ℕ) (out : List ℕ) : Type 0 where
  pub after : next ≡ at + length text
  pub bytes : out ≡ put text at out₀

-- Room for the lines of n frames from a place on. A G line has at most 40 bytes and an F line of an index below 2,048 at most 16 (the laws `opening_length` and
-- `frame_length`), and a text score has at most 2,048 frames.
pub record FramesRoom (n at size : ℕ) : Type 0 where
  pub frames : n ≤ 2048
  pub bytes : at + 16 * n ≤ size
