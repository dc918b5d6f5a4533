-- The loop of `kit_parts::times::at_times`.
use Prim.Native.Nat.{◌≤◌}
use mathlib.Core.Path.{◌≡◌}
use lib.Ieee.{nan}
use lib.ListN.{length}
use Rattle.blocks.proofs.Block.{Tabled}
use Rattle.kit_parts.specs.Times.{LevelsAs}
use Rattle.kit_parts.proofs.times.at_times.Given as goal

abbrev pub invariant-loop-i : goal.invariant-loop-i
invariant-loop-i g l =
    (l.from ≤ l.i) × (l.i ≤ l.end) × (length l.a ≡ 64)
    × ((by : _) → LevelsAs (goal.F-post g l.level) by l.srf l.from l.end → Tabled by nan l.from l.i l.a)
