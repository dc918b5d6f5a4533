-- `voice_bell::bell_note` meets its contract: each block carries the note on. Assumes nothing.
use native.Mathlib.Omega.{arith}
use Prim.Native.Nat.{◌-◌, ◌≤◌}
use mathlib.Core.Path.{◌≡◌, refl}
use lib.ListN.{length}
use Rattle.blocks.proofs.Carried.{Carried, carried_none, carried_then, carried_all, carried_note}
use Rattle.frame_block.proofs.Blocks.{last_block}
use Rattle.dsl.specs.Pitch.{pitch_at}
use Rattle.dsl.proofs.Reach.{reaches_less}
use Rattle.voice_bell.specs.Bell.{bell_at, bell_frames}
use borrow.Author.Rules.{rules}
use Rattle.voice_bell.proofs.bell_note.Goals as goal

pub loop-i-init : goal.loop-i-init
loop-i-init c = (omega arith, (refl, refl, refl, refl, refl), (refl, refl, refl, refl, refl), carried_none)

pub bell_block-state-requires : goal.bell_block-state-requires
bell_block-state-requires c =
    let v = c.loop-i.invariant in
    let end = c.block_end-end.ensures in
    record {
      from_le_end = (omega (arith, end), omega (arith, end), omega (arith, end));
      reaches = reaches_less c.args.pitch _ _ _ c.requires.reaches (omega (arith, end, v.3.kept));
      x_len = v.1;
      e0_len = v.2;
    }

pub loop-i-smaller : goal.loop-i-smaller
loop-i-smaller c =
    omega (arith, c.block_end-end.ensures, c.loop-i.invariant.3.kept)

pub loop-i-preserved : goal.loop-i-preserved
loop-i-preserved c =
    let v = c.loop-i.invariant in
    let done = c.bell_block-state.ensures in
    (omega (arith, c.block_end-end.ensures, v.3.kept), done.x_len_2, done.e0_len_2, carried_all (carried_then v.3 done.carried) (omega arith))

pub shape_of-out : goal.shape_of-out
shape_of-out c = c.loop-i.invariant.3.kept

pub returns : goal.returns
unfolding bell_frames
returns c =
    let v = c.loop-i.invariant in
    carried_note (carried_all v.3 (omega (arith, v.0, v.3.kept))) refl

pub returns-2 : goal.returns-2
unfolding bell_frames
returns-2 c =
    let v = c.loop-i.invariant in
    carried_note (carried_all (carried_then v.3 c.bell_block-state.ensures.carried)
    (omega (arith, v.3.kept, last_block _ _ c.block_end-end.ensures.3 (omega arith)))) refl
