-- The loops of `tempo::judge::all_fine`.
use Rattle.std.proofs.Common.{◌≡◌, ◌-◌, ◌<◌, ◌≤◌, length, drop, refl, ◌∙◌, add-one, arith}
use borrow.Author.Tests.{not-true, not-false}
use Rattle.tempo.specs.Map.{points}
use Rattle.tempo.specs.Judge.{fine_at, all_of}
use Rattle.tempo.proofs.Judging.{all_more, all_fails, all_end}
use Rattle.tempo.proofs.judge.all_fine.Given as goal

abbrev pub invariant-loop-i : goal.invariant-loop-i
invariant-loop-i l = all_of fine_at (drop l.i (points l.map)) ≡ all_of fine_at (points l.map)
