-- The loops of `voice_organ::phases`.
use native.Mathlib.Omega.{arith}
use Prim.Native.Nat.{◌+◌, ◌-◌}
use mathlib.Core.Path.{◌≡◌, refl, ap, ◌∙◌}
use lib.ListN.{length, length-set}
use lib.Ieee.{nan}
use Rattle.blocks.specs.Stored.{written}
use Rattle.blocks.proofs.Block.{Tabled, tabled_none, tabled_next, tabled_all}
use Rattle.blocks.proofs.Rows.{written_length}
use Rattle.blocks.proofs.Advanced.{Advanced, advanced_none, advanced_more, advanced_rows, advanced_state}
use Rattle.dsl.specs.Pitch.{pitch_at}
use Rattle.dsl.proofs.Reach.{reaches_less}
use Rattle.voice_organ.specs.Block.{organ_turns, organ_sixth_turn, organ_next, organ_reached}
use borrow.Author.Rules.{rules}
use Rattle.voice_organ.proofs.phases.Given as goal

abbrev pub invariant-loop-k : goal.invariant-loop-k
invariant-loop-k l =
    Advanced (λ k s. organ_next (pitch_at l.pitch l.lane (l.from + k)) l.srf s) l.start (organ_turns l.bars) 5 nan 384 l.n l.k l.x l.s
    × (length l.y ≡ 384)
    × Tabled (λ k. organ_sixth_turn (organ_reached (pitch_at l.pitch l.lane) l.srf l.from l.start k)) nan 0 l.k l.y
