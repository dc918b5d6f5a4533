-- `voice_cowbell::cowbell` meets its contract: each block carries the note on. Assumes nothing.
use native.Mathlib.Omega.{arith}
use Prim.Native.Nat.{ℕ, ◌-◌, ◌≤◌}
use mathlib.Core.Path.{◌≡◌, refl}
use lib.ListN.{length}
use Rattle.blocks.proofs.Carried.{Carried, carried_none, carried_then, carried_all, carried_note}
use Rattle.frame_block.proofs.Blocks.{last_block}
use Rattle.dsl.specs.Pitch.{pitch_at}
use Rattle.dsl.proofs.Reach.{reaches_less}
use Rattle.voice_cowbell.specs.Cowbell.{cowbell_at, cowbell_frames}
use Rattle.voice_cowbell.proofs.Sounded.{cowbell_stored}
use borrow.Author.Rules.{rules}
use Rattle.voice_cowbell.proofs.cowbell.Goals as goal

pub loop-i-init : goal.loop-i-init
loop-i-init c = (omega arith, (refl, refl, refl, refl, refl), (refl, refl), carried_none)

pub cowbell_block-requires : goal.cowbell_block-requires
cowbell_block-requires c =
    let v = c.loop-i.invariant in
    let end = c.block_end-end.ensures in
    record {
      from_le_end = (omega (arith, end), omega (arith, end));
      reaches = reaches_less c.args.pitch _ _ _ c.requires.reaches (omega (arith, end, v.3.kept));
      x_len = v.1;
      e_len = v.2;
    }

pub overflow_sub-end : goal.overflow_sub-end
overflow_sub-end c = omega (arith, c.block_end-end.ensures)

pub store-requires : goal.store-requires
store-requires c = let end = c.block_end-end.ensures in (omega (arith, end), omega (arith, end))

pub loop-i-smaller : goal.loop-i-smaller
loop-i-smaller c =
    omega (arith, c.block_end-end.ensures, c.loop-i.invariant.3.kept)

pub loop-i-preserved : goal.loop-i-preserved
loop-i-preserved c =
    let v = c.loop-i.invariant in
    let end = c.block_end-end.ensures in
    let next = cowbell_stored (pitch_at c.args.pitch c.args.lane.now) c.args.srf _ _ c.cowbell_block.ensures.tabled (omega (arith, end)) (omega (arith, end)) c.store.ensures in
    (omega (arith, end, v.3.kept), c.cowbell_block.ensures.x_len_2, c.cowbell_block.ensures.e_len_2, carried_all (carried_then v.3 next) (omega arith))

pub shape_of-out : goal.shape_of-out
shape_of-out c = c.loop-i.invariant.3.kept

pub returns : goal.returns
unfolding cowbell_frames
returns c =
    let v = c.loop-i.invariant in
    carried_note (carried_all v.3 (omega (arith, v.0, v.3.kept))) refl

pub returns-2 : goal.returns-2
unfolding cowbell_frames
returns-2 c =
    let v = c.loop-i.invariant in
    let end = c.block_end-end.ensures in
    let next = cowbell_stored (pitch_at c.args.pitch c.args.lane.now) c.args.srf _ _ c.cowbell_block.ensures.tabled (omega (arith, end)) (omega (arith, end)) c.store.ensures in
    carried_note (carried_all (carried_then v.3 next) (omega (arith, v.3.kept, last_block _ _ end.3 (omega arith)))) refl
