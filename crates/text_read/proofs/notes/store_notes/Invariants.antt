-- The loops of `text_read::notes::store_notes`.
use Prim.Native.Nat.{◌-◌}
use native.Mathlib.Omega.{arith}
use lib.ListN.{length}
use Rattle.text_read.proofs.Gather.{Storing, storing_none, storing_bad, storing_room, storing_more, storing_all}
use Rattle.text_read.proofs.Shorter.{note_later}
use borrow.Author.Rules.{rules}
use Rattle.text_read.proofs.notes.store_notes.Given as goal

abbrev pub invariant-loop-at : goal.invariant-loop-at
invariant-loop-at l = Storing l.s l.start l.initial.words l.words l.at l.n

abbrev pub decreases-loop-at : goal.decreases-loop-at
decreases-loop-at l = length l.s - l.at
