-- `kit_parts::hit::hit_frames` meets its contract: a block carries `Filled` on. Assumes nothing.
use mathlib.Core.Path.{refl}
use native.Mathlib.Omega.{arith}
use borrow.Author.Rules.{rules}
use Rattle.laws.proofs.Fill.{filled_none, filled_length}
use Rattle.frame_block.proofs.Blocks.{filled_to, last_block}
use Rattle.kit_parts.proofs.hit.hit_frames.Goals as goal

pub loop-i-init : goal.loop-i-init
loop-i-init g c = (refl, filled_none)

pub levels-requires : goal.levels-requires
levels-requires g c =
    let end = c.block_end-end.ensures in
    let most = c.requires.most in
    record {
      from_le_end = (omega (arith, end), omega (arith, end), omega (arith, filled_length c.loop-i.invariant.1, end, most));
      a_len = c.loop-i.invariant.0;
    }

pub loop-i-preserved : goal.loop-i-preserved
loop-i-preserved g c =
    let done = c.levels.ensures in
    (done.0, filled_to ((c.frames-s.ensures _ (λ k s r ge lt p. rw (← done.1.at k ge lt) (search rules))).on _ _ _ (λ k h l s. refl) c.loop-i.invariant.1) (omega arith))

pub returns-2 : goal.returns-2
returns-2 g c =
    let done = c.levels.ensures in
    let end = c.block_end-end.ensures in
    filled_to ((c.frames-s.ensures _ (λ k s r ge lt p. rw (← done.1.at k ge lt) (search rules))).on _ _ _ (λ k h l s. refl) c.loop-i.invariant.1)
    (omega (arith, filled_length c.loop-i.invariant.1, end, last_block _ _ end.3 (omega arith)))
