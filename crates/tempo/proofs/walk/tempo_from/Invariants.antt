-- The loops of `tempo::walk::tempo_from`.
use Rattle.std.proofs.Common.{◌≡◌, ◌-◌, ◌<◌, ◌≤◌, length, refl, ◌∙◌, add-one, arith}
use Rattle.tempo.specs.Map.{points}
use Rattle.tempo.proofs.Walking.{onward_tempo, tempo_here, tempo_more, tempo_end}
use Rattle.tempo.proofs.walk.tempo_from.Given as goal

abbrev pub invariant-loop-i : goal.invariant-loop-i
invariant-loop-i l = onward_tempo l.map l.beat l.i l.bpm ≡ onward_tempo l.map l.beat l.initial.i l.initial.bpm
