-- The loops of `text_read::notes::count_notes`.
use Prim.Native.Nat.{◌-◌}
use native.Mathlib.Omega.{arith}
use lib.ListN.{length}
use Rattle.text_read.proofs.Gather.{Gathered, gathered_none, gathered_bad, gathered_more, gathered_count}
use Rattle.text_read.proofs.Shorter.{note_later}
use borrow.Author.Rules.{rules}
use Rattle.text_read.proofs.notes.count_notes.Given as goal

abbrev pub invariant-loop-at : goal.invariant-loop-at
invariant-loop-at l = Gathered l.s l.start l.at l.n

abbrev pub decreases-loop-at : goal.decreases-loop-at
decreases-loop-at l = length l.s - l.at
