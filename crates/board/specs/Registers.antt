-- The block of eight bytes as it is read, and the interrupt line.
use Rattle.std.specs.Prelude.{ℕ, ◌+◌, ◌*◌, List, [], Bool, true, false, cond, ◌&&◌, ◌||◌, length, ltb, eqb}
use Rattle.board.specs.Queue.{waiting}
use Rattle.board.specs.declared.registers.Board.{Board}

-- What a board holds; its other bytes follow from this. Samples are f32 bit patterns, the oldest first.
pub record Registers : Type 0 where
  pub run : Bool
  pub enable : Bool
  pub underrun : Bool
  pub mark : ℕ
  pub waiting : List ℕ

-- what the program's record stands for
abbrev pub registers : Board → Registers
registers b = record { run = b.run; enable = b.enable; underrun = b.underrun; mark = b.mark; waiting = waiting b.queue }

-- "A board starts with all bytes 0", and nothing waits
abbrev pub opened : Registers
opened = record { run = false; enable = false; underrun = false; mark = 0; waiting = [] }

-- a bit that stands is 1
abbrev pub digit : Bool → ℕ
digit true = 1
digit false = 0

abbrev pub fill : Registers → ℕ
fill m = length m.waiting

-- "fill below the low-water mark"
abbrev pub low : Registers → Bool
low m = ltb (fill m) m.mark

abbrev pub full : Registers → Bool
full m = eqb (fill m) 64

-- "Byte 0 control: bit 0 run, bit 1 interrupt enable."
unfoldable pub control_of : Registers → ℕ
control_of m = digit m.run + 2 * digit m.enable

-- "Byte 1 status: bit 0 fill below the low-water mark, bit 1 underrun, bit 2 full."
unfoldable pub status_of : Registers → ℕ
status_of m = digit (low m) + 2 * digit m.underrun + 4 * digit (full m)

-- "Byte 2 the low-water mark .. Byte 3 the fill. .. a read gives one byte, 0 from place 4 on."
unfoldable pub byte_at : Registers → ℕ → ℕ
byte_at m place =
    cond (eqb place 0) (control_of m) (cond (eqb place 1) (status_of m) (cond (eqb place 2) m.mark (cond (eqb place 3) (fill m) 0)))

-- "The interrupt line is up when enabled and bit 0 or 1 of status stands."
unfoldable pub interrupt_of : Registers → Bool
interrupt_of m = m.enable && (low m || m.underrun)
