-- The loops of `tempo::walk::walk_to`.
use Rattle.std.proofs.Common.{◌≡◌, ◌-◌, ◌<◌, ◌≤◌, length, refl, ◌∙◌, arith}
use Rattle.tempo.specs.Map.{points}
use Rattle.tempo.proofs.Walking.{onward, walk_here, walk_more, walk_end}
use Rattle.tempo.proofs.walk.walk_to.Given as goal

abbrev pub invariant-loop-w : goal.invariant-loop-w
invariant-loop-w l = onward l.map l.beat l.w ≡ onward l.map l.beat l.initial.w

abbrev pub decreases-loop-w : goal.decreases-loop-w
decreases-loop-w l = l.n - l.w.next
