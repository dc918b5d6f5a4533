-- The loop of `frame_block::levels::table`.
use Prim.Native.Nat.{◌≤◌}
use mathlib.Core.Path.{◌≡◌}
use lib.Ieee.{nan}
use lib.ListN.{length}
use Rattle.blocks.proofs.Block.{Tabled}
use Rattle.frame_block.specs.Table.{LevelsBy}
use Rattle.frame_block.proofs.levels.table.Given as goal

abbrev pub invariant-loop-i : goal.invariant-loop-i
invariant-loop-i g l =
    (l.from ≤ l.i) × (l.i ≤ l.end) × (length l.a ≡ 64)
    × ((by : _) → LevelsBy (goal.F-post g l.level) by l.from l.end → Tabled by nan l.from l.i l.a)
