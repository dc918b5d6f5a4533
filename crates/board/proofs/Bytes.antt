-- The sentences of the card about the bytes that are read and the interrupt line. Assumes nothing.
use Prim.Native.Nat.{ℕ, ◌+◌, ◌*◌, ◌/◌, ◌%◌, ◌≤◌}
use mathlib.Core.Path.{◌≡◌, refl}
use mathlib.Core.Bool.{Bool, true, false, cond, not, ◌&&◌, ◌||◌}
use native.Mathlib.Omega.{arith}
use borrow.Author.Tests.{ne_eqb}
use lib.Dec.{eqb}
use Rattle.board.specs.Registers.{Registers, registers, opened, digit, fill, low, full, control_of, status_of, byte_at, interrupt_of}
use Rattle.board.specs.Write.{bit0, bit1}
use Rattle.board.specs.declared.registers.Board.{Board}
use Rattle.board.proofs.Ring.{fill_most}

opened_by_lem : (a b c d : Bool) → ◌≡◌ {A = ℕ} (cond a 0 (cond b 0 (cond c 0 (cond d 0 0)))) 0
opened_by_lem true b c d = refl
opened_by_lem false true c d = refl
opened_by_lem false false true d = refl
opened_by_lem false false false true = refl
opened_by_lem false false false false = refl

-- "A board starts with all bytes 0."
pub starts_zero : (p : ℕ) → byte_at opened p ≡ 0
unfolding byte_at control_of status_of
starts_zero p = opened_by_lem (eqb p 0) (eqb p 1) (eqb p 2) (eqb p 3)

-- "a read gives one byte, 0 from place 4 on"
pub reads_zero : (m : Registers) (p : ℕ) → 4 ≤ p → byte_at m p ≡ 0
unfolding byte_at
reads_zero m p h =
    let n0 : p ≡ 0 → ⊥ = λ e. omega arith in
    let n1 : p ≡ 1 → ⊥ = λ e. omega arith in
    let n2 : p ≡ 2 → ⊥ = λ e. omega arith in
    let n3 : p ≡ 3 → ⊥ = λ e. omega arith in
    rw (ne_eqb p 0 n0, ne_eqb p 1 n1, ne_eqb p 2 n2, ne_eqb p 3 n3)

-- "a queue of 64 samples": the fill of every board, whatever it holds
pub fill_bound : (b : Board) → fill (registers b) ≤ 64
fill_bound b = fill_most b.queue

-- Bit k of a byte made of bits is the k-th: control's, and status's.
two : (r e : Bool) → (bit0 (digit r + 2 * digit e) ≡ r) × (bit1 (digit r + 2 * digit e) ≡ e)
two true true = (refl, refl)
two true false = (refl, refl)
two false true = (refl, refl)
two false false = (refl, refl)

abbrev Bits : ℕ → Bool → Bool → Bool → Type 0
Bits byte l u f = (bit0 byte ≡ l) × (bit1 byte ≡ u) × (eqb (byte / 4 % 2) 1 ≡ f)

three : (l u f : Bool) → Bits (digit l + 2 * digit u + 4 * digit f) l u f
three true true true = (refl, refl, refl)
three true true false = (refl, refl, refl)
three true false true = (refl, refl, refl)
three true false false = (refl, refl, refl)
three false true true = (refl, refl, refl)
three false true false = (refl, refl, refl)
three false false true = (refl, refl, refl)
three false false false = (refl, refl, refl)

-- bit 0 or 1 of status stands: its two low bits are not both 0
either : (l u f : Bool) → not (eqb ((digit l + 2 * digit u + 4 * digit f) % 4) 0) ≡ (l || u)
either true true true = refl
either true true false = refl
either true false true = refl
either true false false = refl
either false true true = refl
either false true false = refl
either false false true = refl
either false false false = refl

pub line_by_status : (m : Registers) → m.enable ≡ true → not (eqb (status_of m % 4) 0) ≡ interrupt_of m
unfolding status_of interrupt_of
line_by_status m e = rw e (either (low m) m.underrun (full m))

-- "Byte 0 control: bit 0 run, bit 1 interrupt enable."
pub control_bits : (m : Registers) → (bit0 (byte_at m 0) ≡ m.run) × (bit1 (byte_at m 0) ≡ m.enable)
unfolding byte_at control_of
control_bits m = two m.run m.enable

-- "Byte 1 status: bit 0 fill below the low-water mark, bit 1 underrun, bit 2 full."
pub status_bits : (m : Registers) → Bits (byte_at m 1) (low m) m.underrun (full m)
unfolding byte_at status_of
status_bits m = three (low m) m.underrun (full m)

-- "The interrupt line is up when enabled and bit 0 or 1 of status stands."
pub line_is : (m : Registers) → interrupt_of m ≡ (bit1 (byte_at m 0) && (bit0 (byte_at m 1) || bit1 (byte_at m 1)))
unfolding interrupt_of
line_is m = rw ((control_bits m).1, (status_bits m).0, (status_bits m).1)
