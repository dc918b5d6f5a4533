-- "taken whole": what an accepted write to control, status or mark leaves of each byte of the block.
use Rattle.std.specs.Prelude.{ℕ, ◌-◌, ◌≡◌, List, true, false, cond, length, get_or}
use Rattle.board.specs.Registers.{Registers, byte_at}
use Rattle.board.specs.Shape.{covers, byte_for}
use Rattle.board.specs.Write.{bit1}

-- Control and mark read as they were written, or as before where they are not covered; underrun is cleared by a 1 and by nothing else; the samples stay.
pub record Whole (m after : Registers) (place : ℕ) (bytes : List ℕ) : Type 0 where
  pub control : covers place (length bytes) 0 ≡ true → byte_at after 0 ≡ get_or bytes (0 - place) 0
  pub control_kept : covers place (length bytes) 0 ≡ false → byte_at after 0 ≡ byte_at m 0
  pub mark : covers place (length bytes) 2 ≡ true → byte_at after 2 ≡ get_or bytes (2 - place) 0
  pub mark_kept : covers place (length bytes) 2 ≡ false → byte_at after 2 ≡ byte_at m 2
  pub underrun : after.underrun ≡ cond (bit1 (byte_for place bytes 1)) false m.underrun
  pub samples : after.waiting ≡ m.waiting
