-- The loops of `voice_cowbell::turns`.
use native.Mathlib.Omega.{arith}
use Prim.Native.Nat.{◌+◌, ◌-◌, ◌*◌, ◌≤◌}
use mathlib.Core.Path.{◌≡◌, refl, ap, ◌∙◌}
use lib.ListN.{length}
use lib.Ieee.{nan}
use Rattle.blocks.proofs.Rows.{Rows, rows_none, rows_more, rows_all, written_length}
use Rattle.dsl.specs.Pitch.{pitch_at}
use Rattle.dsl.proofs.Reach.{reaches_less}
use Rattle.voice_cowbell.specs.Block.{cowbell_turns}
use borrow.Author.Rules.{rules}
use Rattle.voice_cowbell.proofs.turns.Given as goal

abbrev pub invariant-loop-k : goal.invariant-loop-k
invariant-loop-k l = (l.k ≤ l.n) × (length l.x ≡ 384) × Rows 2 (λ k. cowbell_turns (pitch_at l.pitch l.lane (l.from + k)) l.srf (l.from + k)) nan l.k l.x
