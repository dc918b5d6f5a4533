-- What a list of operations on a new board answers: two words each.
use Rattle.std.specs.Prelude.{ℕ, Option, Some, None, zero, suc, ◌*◌, ◌/◌, ◌≡◌, List, [], ◌∷◌, ◌++◌, length, drop}
use Rattle.board.specs.Answer.{write_number}
use Rattle.board.specs.Registers.{Registers, registers, opened, digit, byte_at, interrupt_of}
use Rattle.board.specs.Write.{write_of}
use Rattle.board.specs.Tick.{tick_of}
use Rattle.board.specs.declared.registers.Board.{Board}
use Rattle.harness_board.specs.Words.{Operation, write, read, tick, Next, next, stop, next_of}
use Rattle.harness_board.specs.declared.step.Step.{Step}

-- the registers after an operation, and its first word: a write's number (0, 38, 39), a read's byte or a tick's sample bits
pub record Done : Type 0 where
  pub after : Registers
  pub answer : ℕ

abbrev pub done_of : Registers → Operation → Done
done_of m (write place bytes) = record { after = (write_of m place bytes).after; answer = write_number (write_of m place bytes).outcome }
done_of m (read place) = record { after = m; answer = byte_at m place }
done_of m tick = record { after = (tick_of m).after; answer = (tick_of m).played }

-- what was done and the words that follow, or the end
pub data Stepped : Type 0 where
  went : Done → List ℕ → Stepped
  halted : Stepped

abbrev pub step_of : Registers → Next → Stepped
step_of m (next op ws) = went (done_of m op) ws
step_of m stop = halted

-- what the program's step among the words `ops` stands for, with the board after it
abbrev pub stepped : List ℕ → Board → Option Step → Stepped
stepped ops board None = halted
stepped ops board (Some r) = went (record { after = registers board; answer = r.answer }) (drop r.next ops)

-- both words of a step, the second the interrupt line after it, 0 or 1, and then those of the others
abbrev pub answered : (Registers → List ℕ → List ℕ) → Stepped → List ℕ
answered others (went d ws) = d.answer ∷ digit (interrupt_of d.after) ∷ others d.after ws
answered others halted = []

-- the answers of the operations of a list of words, at most `room` of them
unfoldable pub answers_of : ℕ → Registers → List ℕ → List ℕ
answers_of zero m ws = []
answers_of (suc room) m ws = answered (answers_of room) (step_of m (next_of ws))

-- how many operations were done, and the lent answers after them: those past the answers stay
pub record Ran (ops answers₀ : List ℕ) (count : ℕ) (answers : List ℕ) : Type 0 where
  pub done : 2 * count ≡ length (answers_of (length answers₀ / 2) opened ops)
  pub answered : answers ≡ answers_of (length answers₀ / 2) opened ops ++ drop (2 * count) answers₀
