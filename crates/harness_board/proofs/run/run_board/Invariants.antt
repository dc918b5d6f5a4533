-- The loops of `harness_board::run::run_board`.
use mathlib.Core.Path.{◌≡◌}
use Prim.Native.Nat.{◌/◌}
use lib.ListN.{length}
use Rattle.harness_board.proofs.Going.{Going}
use Rattle.harness_board.proofs.run.run_board.Given as goal

abbrev pub invariant-loop-done : goal.invariant-loop-done
invariant-loop-done l = Going l.ops l.initial.answers l.answers l.board l.at l.done × (l.room ≡ length l.initial.answers / 2)
