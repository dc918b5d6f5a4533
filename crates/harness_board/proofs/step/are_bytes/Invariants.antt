-- The loops of `harness_board::step::are_bytes`.
use Prim.Native.Nat.{◌≤◌}
use mathlib.Core.Path.{◌≡◌}
use lib.ListN.{length, drop}
use Rattle.harness_board.specs.Words.{all_bytes}
use Rattle.harness_board.proofs.step.are_bytes.Given as goal

abbrev pub invariant-loop-word : goal.invariant-loop-word
invariant-loop-word l = (all_bytes (drop l.word-index l.words) ≡ all_bytes l.words) × (l.word-index ≤ length l.words)
