-- One operation at a place of the words, by the code's tests. Assumes nothing.
use Prim.Native.Nat.{ℕ, suc, ◌+◌, ◌-◌, ◌≤◌, ◌<◌}
use mathlib.Core.Path.{◌≡◌, refl, sym, ap, ◌∙◌}
use mathlib.Core.List.{List, [], ◌∷◌}
use mathlib.Core.Bool.{true, false, cond}
use native.Mathlib.Omega.{arith}
use native.Mathlib.Numerals.{add-one}
use borrow.Author.Tests.{le-leb, lt-leb}
use lib.ListN.{length, get_or, take, drop, length-drop, drop_of_length-le}
use lib.Seq.{drop-cons, drop-drop}
use lib.Dec.{leb}
use Rattle.board.specs.Answer.{write_number}
use Rattle.board.specs.Registers.{Registers, registers}
use Rattle.board.specs.Write.{Written, write_of, written}
use Rattle.board.specs.declared.registers.Write.{Write}
use Rattle.harness_board.specs.Words.{Next, next, stop, write, read, all_bytes, write_in, read_in, next_by, next_of}
use Rattle.harness_board.specs.Ran.{went, halted, step_of}

pub halts : (m : Registers) (n : Next) → n ≡ stop → halted ≡ step_of m n
halts m n h = rw h

pub write_short : (l : List ℕ) → length l < 2 → write_in l ≡ stop
write_short [] h = refl
write_short (x ∷ []) h = refl
write_short (x ∷ y ∷ l) h = absurd (omega arith)

module _ (ops : List ℕ) (at : ℕ) where
  pub left : at ≤ length ops → length ops - at < 2 → length (drop at ops) < 2
  left h k = omega (arith, length-drop at ops)

  -- A write of two words and more, `count` bytes being asked for.
  module _ (count : ℕ) (two : at + 2 ≤ length ops) (asked : count ≡ get_or ops (at + 1) 0) where
    abbrev bytes : List ℕ
    bytes = take (at + 2 + count - (at + 2)) (drop (at + 2) ops)

    write_is : write_in (drop at ops) ≡ cond (leb count (length ops - (at + 2))) (cond (all_bytes bytes) (next (write (get_or ops at 0) bytes) (drop (at + 2 + count) ops)) stop) stop
    write_is =
        let n : at + 2 + count - (at + 2) ≡ count = omega arith in
        let s : at + 2 ≡ suc (suc at) = omega arith in
        let k : suc at < length ops = omega arith in
        let a : get_or ops (suc at) 0 ≡ count = sym (rw add-one at asked) in
        let d : drop at ops ≡ get_or ops at 0 ∷ count ∷ drop (at + 2) ops = drop-cons ops at 0 (omega arith) ∙ rw (drop-cons ops (suc at) 0 k, a, s) in
        rw (d, n, length-drop, drop-drop)

    pub write_cut : length ops - (at + 2) < count → write_in (drop at ops) ≡ stop
    write_cut h = write_is ∙ rw (lt-leb count (length ops - (at + 2)) h)

    pub write_large : count ≤ length ops - (at + 2) → all_bytes bytes ≡ false → write_in (drop at ops) ≡ stop
    write_large h b = write_is ∙ rw (le-leb count (length ops - (at + 2)) h, b)

    write_next : count ≤ length ops - (at + 2) → all_bytes bytes ≡ true → write_in (drop at ops) ≡ next (write (get_or ops at 0) bytes) (drop (at + 2 + count) ops)
    write_next h b = write_is ∙ rw (le-leb count (length ops - (at + 2)) h, b)

    pub write_done : (m : Registers) (w : Write) (number : ℕ) → count ≤ length ops - (at + 2) → all_bytes bytes ≡ true
        → written w ≡ write_of m (get_or ops at 0) bytes → number ≡ write_number w.outcome
        → went (record { after = registers w.board; answer = number }) (drop (at + 2 + count) ops) ≡ step_of m (write_in (drop at ops))
    write_done m w number h b e n =
        rw (n, write_next h b) (ap (λ (v : Written). went (record { after = v.after; answer = write_number v.outcome }) (drop (at + 2 + count) ops)) e)

  pub read_cut : at ≡ length ops → read_in (drop at ops) ≡ stop
  read_cut e = let h : length ops ≤ at = omega arith in rw (drop_of_length-le ops h)

  pub read_next : at < length ops → read_in (drop at ops) ≡ next (read (get_or ops at 0)) (drop (at + 1) ops)
  read_next h = rw (add-one, drop-cons ops at 0 h)

  pub next_none : length ops ≤ at → next_of (drop at ops) ≡ stop
  unfolding next_of
  next_none h = rw (drop_of_length-le ops h)

  -- the operation by its first word
  pub next_is : at < length ops → next_of (drop at ops) ≡ next_by (get_or ops at 0) (drop (at + 1) ops)
  unfolding next_of
  next_is h = rw (add-one, drop-cons ops at 0 h)
