-- A write: "a place and its bytes, taken whole or not at all".
use Rattle.std.specs.Prelude.{ℕ, Result, Ok, Err, ◌/◌, ◌%◌, List, [], ◌∷◌, ◌++◌, Bool, false, cond, length, eqb}
use Rattle.board.specs.Registers.{Registers, registers, full}
use Rattle.board.specs.Shape.{covers, byte_for, is_sample, sample_of, permitted}
use Rattle.board.specs.declared.registers.Write.{Write}
use Rattle.board.specs.declared.answer.WriteRefusal.{WriteRefusal}
use Rattle.board.specs.declared.answer.WriteRefusal.TheVariants.{QueueFull, Invalid}

abbrev pub bit0 : ℕ → Bool
bit0 byte = eqb (byte % 2) 1

abbrev pub bit1 : ℕ → Bool
bit1 byte = eqb (byte / 2 % 2) 1

-- the registers after a write of control, status or mark. "Writing 1 to underrun clears it."
unfoldable pub stored : Registers → ℕ → List ℕ → Registers
stored m place bytes =
    let control = byte_for place bytes 0 in
    record {
      run = cond (covers place (length bytes) 0) (bit0 control) m.run;
      enable = cond (covers place (length bytes) 0) (bit1 control) m.enable;
      underrun = cond (bit1 (byte_for place bytes 1)) false m.underrun;
      mark = cond (covers place (length bytes) 2) (byte_for place bytes 2) m.mark;
      waiting = m.waiting;
    }

-- the registers with one sample more, the newest
abbrev pub queued : Registers → ℕ → Registers
queued m sample = record { run = m.run; enable = m.enable; underrun = m.underrun; mark = m.mark; waiting = m.waiting ++ (sample ∷ []) }

-- what a write comes to: the registers after it, and its answer
pub record Written : Type 0 where
  pub after : Registers
  pub outcome : Result (Unit {0}) WriteRefusal

abbrev pub taken : Registers → Written
taken after = record { after = after; outcome = Ok tt }

-- a refused write changes nothing
abbrev pub refused : Registers → WriteRefusal → Written
refused m refusal = record { after = m; outcome = Err refusal }

-- a sample's write
unfoldable pub sampled : Registers → ℕ → Written
sampled m sample = cond (full m) (refused m QueueFull) (taken (queued m sample))

-- any other write
abbrev pub other : Registers → ℕ → List ℕ → Written
other m place bytes = cond (permitted place bytes) (taken (stored m place bytes)) (refused m Invalid)

unfoldable pub write_of : Registers → ℕ → List ℕ → Written
write_of m place bytes =
    cond (is_sample place bytes) (sampled m (sample_of bytes)) (other m place bytes)

-- what the program's answer stands for
abbrev pub written : Write → Written
written r = record { after = registers r.board; outcome = r.outcome }
