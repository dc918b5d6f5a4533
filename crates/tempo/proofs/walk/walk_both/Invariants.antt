-- The loops of `tempo::walk::walk_both`.
use Rattle.std.proofs.Common.{◌≡◌, ◌-◌, ◌<◌, ◌≤◌, length, arith}
use Rattle.tempo.specs.Map.{points}
use Rattle.tempo.specs.Shared.{Shared}
use Rattle.tempo.proofs.Walking.{shared_start, shared_more}
use Rattle.tempo.proofs.walk.walk_both.Given as goal

abbrev pub invariant-loop-w : goal.invariant-loop-w
invariant-loop-w l = Shared (points l.map) l.from l.to l.w

abbrev pub decreases-loop-w : goal.decreases-loop-w
decreases-loop-w l = l.n - l.w.next
