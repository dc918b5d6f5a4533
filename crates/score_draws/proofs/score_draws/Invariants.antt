-- The loops of `score_draws::score_draws`.
use Prim.Native.Nat.{◌-◌, ◌/◌}
use mathlib.Core.Path.{◌≡◌, refl}
use native.Mathlib.Omega.{arith}
use lib.ListN.{length}
use Rattle.score.specs.Score.{score_of}
use Rattle.score_draws.proofs.Adding.{Added, added_none, added_over, added_more, added_all}
use borrow.Author.Rules.{rules}
use Rattle.score_draws.proofs.score_draws.Given as goal

abbrev pub invariant-loop-k : goal.invariant-loop-k
invariant-loop-k l = (Added (score_of l.seq l.notes l.lane l.lent) l.left l.k l.total) × (l.count ≡ length l.notes / 5)
