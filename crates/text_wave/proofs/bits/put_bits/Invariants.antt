-- The loops of `text_wave::bits::put_bits`.
use native.Mathlib.Omega.{arith}
use Prim.Native.Nat.{ℕ, ◌-◌, ◌≤◌}
use mathlib.Core.Path.{ap, ◌∙◌}
use mathlib.Core.List.{List, ◌++◌}
use lib.ListN.{length, drop}
use Rattle.laws.proofs.Fill.{Filled, filled_none, filled_more, filled_part, filled_length}
use borrow.Author.Rules.{rules}
use Rattle.text_wave.proofs.Patterns.{pattern, all}
use Rattle.text_wave.proofs.bits.put_bits.Given as goal

abbrev pub invariant-loop-i : goal.invariant-loop-i
invariant-loop-i l = Filled (pattern l.frames) (λ y. y) (λ y. 0) 0 l.initial.bits l.i l.bits 0 × l.i ≤ length l.frames
