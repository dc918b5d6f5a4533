-- The loops of `raw_map::points_in`.
use Prim.Native.Nat.{◌-◌, ◌≤◌}
use mathlib.Core.Path.{◌≡◌, ap, ◌∙◌}
use native.Mathlib.Omega.{arith}
use Rattle.tempo.specs.Map.{no_map}
use Rattle.tempo.specs.declared.map.TempoMap.{TempoMap}
use Rattle.raw_map.specs.Words.{point_in}
use Rattle.raw_map.proofs.Reading.{read, read_none, read_more}
use Rattle.raw_map.proofs.points_in.Given as goal

abbrev pub invariant-loop-i : goal.invariant-loop-i
invariant-loop-i l = (l.i ≤ l.n) × (l.points ≡ read (point_in l.words) no_map.points l.i)
