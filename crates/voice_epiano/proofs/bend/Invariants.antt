-- The loops of `voice_epiano::bend`.
use native.Mathlib.Omega.{arith}
use Prim.Native.Nat.{◌-◌, ◌≤◌}
use mathlib.Core.Path.{◌≡◌, refl, ap, ◌∙◌}
use lib.ListN.{length}
use lib.Ieee.{nan}
use Rattle.blocks.proofs.Rows.{Rows, rows_none, rows_more, rows_all, written_length}
use Rattle.voice_epiano.specs.Block.{outer_turns_at}
use borrow.Author.Rules.{rules}
use Rattle.voice_epiano.proofs.bend.Given as goal

abbrev pub invariant-loop-k : goal.invariant-loop-k
invariant-loop-k l = (l.k ≤ l.n) × (length l.x ≡ 384) × Rows 2 (outer_turns_at l.gain l.c l.soft l.ping l.s) nan l.k l.x
