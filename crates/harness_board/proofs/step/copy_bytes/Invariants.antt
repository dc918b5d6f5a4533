-- The loops of `harness_board::step::copy_bytes`.
use Prim.Native.Nat.{◌≤◌}
use mathlib.Core.Path.{◌≡◌}
use mathlib.Core.List.{◌++◌}
use lib.ListN.{length, take, drop}
use Rattle.harness_board.proofs.step.copy_bytes.Given as goal

abbrev pub invariant-loop-i : goal.invariant-loop-i
invariant-loop-i l = (l.bytes ≡ take l.i l.words ++ drop l.i l.initial.bytes) × (l.i ≤ length l.words) × (length l.bytes ≡ length l.words)
