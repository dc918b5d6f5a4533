-- The loops of `score_verdict::notes::notes_verdict`.
use Prim.Native.Nat.{◌-◌, ◌/◌}
use mathlib.Core.Path.{◌≡◌, refl}
use native.Mathlib.Omega.{arith}
use lib.ListN.{length}
use Rattle.score.specs.Score.{score_of}
use Rattle.score_verdict.proofs.Verdicts.{verdict_in, all_notes}
use Rattle.outcome.proofs.First.{Probed, probed_start, probed_more, probed_here, probed_none}
use borrow.Author.Rules.{rules}
use Rattle.score_verdict.proofs.notes.notes_verdict.Given as goal

abbrev pub invariant-loop-k : goal.invariant-loop-k
invariant-loop-k l = (Probed (verdict_in (score_of l.seq l.notes l.lane l.lent)) (length l.notes / 5) l.k) × (l.count ≡ length l.notes / 5)
