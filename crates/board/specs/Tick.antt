-- "A tick with run set takes the oldest sample, or plays plus zero and sets underrun if none waits; with run clear it plays plus zero and takes none."
use Rattle.std.specs.Prelude.{ℕ, ◌≡◌, List, [], ◌∷◌, true, cond}
use Rattle.board.specs.Registers.{Registers, registers}
use Rattle.board.specs.declared.registers.Board.{Board}
use Rattle.board.specs.declared.registers.Tick.{Tick}

-- What a tick comes to: the registers after it, the sample that it plays, and the sample that it takes, or none: a plus zero that is played for want of a sample looks like one
-- that waited.
pub record Ticked : Type 0 where
  pub after : Registers
  pub played : ℕ
  pub taken : List ℕ

-- plus zero's f32 bits
abbrev pub plus_zero : ℕ
plus_zero = 0

-- with run set, the waiting samples being these
abbrev pub running : Registers → List ℕ → Ticked
running m [] = record {
  after = record { run = m.run; enable = m.enable; underrun = true; mark = m.mark; waiting = [] };
  played = plus_zero;
  taken = [];
}
running m (oldest ∷ others) = record {
  after = record { run = m.run; enable = m.enable; underrun = m.underrun; mark = m.mark; waiting = others };
  played = oldest;
  taken = oldest ∷ [];
}

-- with run clear
abbrev pub standing : Registers → Ticked
standing m = record { after = m; played = plus_zero; taken = [] }

unfoldable pub tick_of : Registers → Ticked
tick_of m = cond m.run (running m m.waiting) (standing m)

-- what the program's tick of a board leaves and plays
pub record Ticks (b : Board) (r : Tick) : Type 0 where
  pub after : registers r.board ≡ (tick_of (registers b)).after
  pub played : r.sample ≡ (tick_of (registers b)).played
