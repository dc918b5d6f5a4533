-- What holds after every list of writes and ticks, beside their order. Assumes nothing.
use Prim.Native.Nat.{ℕ, ◌≤◌}
use mathlib.Core.Path.{◌≡◌, refl, ap, ◌∙◌}
use mathlib.Core.List.{List}
use mathlib.Core.Bool.{Bool, true, false, cond}
use native.Mathlib.Omega.{arith}
use lib.ListN.{length}
use Rattle.board.specs.Registers.{Registers, registers, full}
use Rattle.board.specs.Shape.{covers, byte_for, is_sample, sample_of, permitted}
use Rattle.board.specs.Write.{Written, stored, queued, taken, refused, sampled, other, write_of}
use Rattle.board.specs.Claim.{Event, Run, none, wrote, ticked}
use Rattle.board.specs.declared.registers.Board.{Board}
use Rattle.board.specs.declared.answer.WriteRefusal.TheVariants.{QueueFull, Invalid}
use Rattle.board.proofs.Writes.{permitted_mark}
use Rattle.board.proofs.Ticks.{tick_mark}

module _ (m : Registers) (place : ℕ) (bytes : List ℕ) where
  -- "the low-water mark, 0 to 63"
  abbrev Low : Written → Type 0
  Low w = m.mark ≤ 63 → w.after.mark ≤ 63

  sample_low : (f : Bool) → Low (cond f (refused m QueueFull) (taken (queued m (sample_of bytes))))
  sample_low true h = h
  sample_low false h = h

  stored_low : (c : Bool) (v : ℕ) → v ≤ 63 → m.mark ≤ 63 → cond c v m.mark ≤ 63
  stored_low true v h k = h
  stored_low false v h k = k

  other_low : (p : Bool) → permitted place bytes ≡ p → Low (cond p (taken (stored m place bytes)) (refused m Invalid))
  unfolding stored
  other_low true e h = stored_low (covers place (length bytes) 2) (byte_for place bytes 2) (permitted_mark place bytes e) h
  other_low false e h = h

  low_by : (s : Bool) → Low (cond s (sampled m (sample_of bytes)) (other m place bytes))
  unfolding sampled
  low_by true = sample_low (full m)
  low_by false = other_low (permitted place bytes) refl

  write_low : Low (write_of m place bytes)
  unfolding write_of
  write_low = low_by (is_sample place bytes)

-- the mark stays from 0 to 63
pub mark_bound : {a b : Board} {es : List Event} → Run a es b → a.mark ≤ 63 → b.mark ≤ 63
mark_bound none h = h
mark_bound {a} (wrote place bytes r e rest) h =
    let w : (write_of (registers a) place bytes).after.mark ≤ 63 = write_low (registers a) place bytes h in
    let s : r.board.mark ≡ (write_of (registers a) place bytes).after.mark = ap (λ (w : Written). w.after.mark) e in
    mark_bound rest (omega arith)
mark_bound {a} (ticked r e rest) h =
    let s : r.board.mark ≡ a.mark = ap (λ (m : Registers). m.mark) e.after ∙ tick_mark (registers a) in
    mark_bound rest (omega arith)
