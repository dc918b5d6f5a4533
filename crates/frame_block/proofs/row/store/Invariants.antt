-- The loop of `frame_block::row::store`: what is left of the row is still to be written.
use Rattle.std.proofs.Common.{◌≡◌, ◌+◌, length, drop}
use Rattle.blocks.specs.Stored.{written}
use Rattle.frame_block.proofs.row.store.Given as goal

abbrev pub invariant-loop-k : goal.invariant-loop-k
invariant-loop-k g l = (length l.x ≡ 384) × (written l.x (l.at + l.k) (drop l.k l.row) ≡ written l.initial.x l.at l.row)
