-- The loops of `dsl::pitch::Reading::block_each`.
use borrow.Author.Rules.{rules}
use native.Mathlib.Omega.{arith}
use mathlib.Core.Path.{◌≡◌}
use Prim.Native.Nat.{◌-◌, ◌≤◌}
use lib.ListN.{length, length-set}
use lib.Ieee.{nan}
use Rattle.blocks.proofs.Block.{Tabled, tabled_none, tabled_more, tabled_all}
use Rattle.dsl.specs.Pitch.{pitch_at}
use Rattle.dsl.proofs.Reach.{reaches_less}
use Rattle.dsl.proofs.pitch.Reading.block_each.Given as goal

abbrev pub invariant-loop-i : goal.invariant-loop-i
invariant-loop-i l = (l.from ≤ l.i) × (l.i ≤ l.end) × (length l.f ≡ 64) × Tabled (pitch_at l.self l.lane) nan l.from l.i l.f
