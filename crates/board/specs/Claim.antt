-- "For every list of writes and ticks on an empty queue, samples taken followed by samples waiting are the accepted samples, in order."
use Rattle.std.specs.Prelude.{ℕ, Result, Ok, Err, ◌≡◌, List, [], ◌∷◌, ◌++◌, cond}
use Rattle.board.specs.Registers.{registers}
use Rattle.board.specs.Shape.{is_sample, sample_of}
use Rattle.board.specs.Write.{write_of, written}
use Rattle.board.specs.Tick.{tick_of, Ticks}
use Rattle.board.specs.declared.registers.Board.{Board}
use Rattle.board.specs.declared.registers.Write.{Write}
use Rattle.board.specs.declared.registers.Tick.{Tick}
use Rattle.board.specs.declared.answer.WriteRefusal.{WriteRefusal}

-- a write with its place, its bytes and its answer, or a tick with its answer
pub data Event : Type 0 where
  write : ℕ → List ℕ → Write → Event
  tick : Tick → Event

-- A list of writes, accepted or refused, and ticks, from the board a to the board b. Each meets the contract of `Board::write` or `Board::tick` on the board as the last one left
-- it.
pub data Run : Board → List Event → Board → Type 0 where
  none : {a : Board} → Run a [] a
  wrote : {a b : Board} {es : List Event} (place : ℕ) (bytes : List ℕ) (r : Write) → written r ≡ write_of (registers a) place bytes → Run r.board es b
      → Run a (write place bytes r ∷ es) b
  ticked : {a b : Board} {es : List Event} (r : Tick) → Ticks a r → Run r.board es b → Run a (tick r ∷ es) b

-- the sample of a write that was answered so, if it was one
abbrev pub accepted_by : Result (Unit {0}) WriteRefusal → ℕ → List ℕ → List ℕ
accepted_by (Ok taken) place bytes = cond (is_sample place bytes) (sample_of bytes ∷ []) []
accepted_by (Err r) place bytes = []

-- the samples of the writes that were answered as accepted, in order
unfoldable pub accepted : List Event → List ℕ
accepted [] = []
accepted (write place bytes r ∷ es) = accepted_by r.outcome place bytes ++ accepted es
accepted (tick r ∷ es) = accepted es

-- the samples that the ticks took, in order
unfoldable pub taken_in : {a b : Board} {es : List Event} → Run a es b → List ℕ
taken_in none = []
taken_in (wrote place bytes r h rest) = taken_in rest
taken_in (ticked {a} r h rest) = (tick_of (registers a)).taken ++ taken_in rest
