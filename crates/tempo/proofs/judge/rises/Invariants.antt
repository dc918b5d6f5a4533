-- The loops of `tempo::judge::rises`.
use Rattle.std.proofs.Common.{◌≡◌, ◌+◌, ◌-◌, ◌<◌, ◌≤◌, length, drop, refl, ◌∙◌, arith}
use borrow.Author.Tests.{not-true, not-false}
use Rattle.tempo.specs.Map.{points}
use Rattle.tempo.specs.Judge.{fine_at, chain, rises_to}
use Rattle.tempo.proofs.Judging.{each_passes_lem, fine_size, chain_more, chain_fails, chain_end}
use Rattle.tempo.proofs.judge.rises.Given as goal

abbrev pub invariant-loop-i : goal.invariant-loop-i
invariant-loop-i l = (1 ≤ l.i) × (chain rises_to (drop (l.i - 1) (points l.map)) ≡ chain rises_to (points l.map))
