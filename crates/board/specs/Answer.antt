-- What a write answers, by the card's numbers: "It refuses a sample written to a full queue with 38, and an empty write or any other write .. with 39."
use Rattle.std.specs.Prelude.{ℕ, Result, Ok, Err}
use Rattle.board.specs.declared.answer.WriteRefusal.{WriteRefusal}
use Rattle.board.specs.declared.answer.WriteRefusal.TheVariants.{QueueFull, Invalid}

abbrev pub refusal_number : WriteRefusal → ℕ
refusal_number QueueFull = 38
refusal_number Invalid = 39

-- 0: the write was taken
abbrev pub write_number : Result (Unit {0}) WriteRefusal → ℕ
write_number (Ok taken) = 0
write_number (Err r) = refusal_number r
