-- `voice_brass::brass_note` meets its contract: a block carries `Filled` on. Assumes nothing.
use Prim.Native.Nat.{◌-◌}
use mathlib.Core.Path.{◌≡◌, refl, ◌∙◌}
use native.Mathlib.Omega.{arith}
use borrow.Author.Rules.{rules}
use lib.ListN.{length}
use Rattle.laws.proofs.Fill.{Filled, filled_none, filled_frames, filled_length}
use Rattle.frame_block.proofs.Blocks.{filled_to, last_block}
use Rattle.dsl.specs.Pitch.{pitch_at}
use Rattle.dsl.proofs.Reach.{reaches_less}
use Rattle.brass_opening.specs.Opening.{opening_at}
use Rattle.voice_brass.specs.Block.{brass_by}
use Rattle.voice_brass.proofs.Brass.{by_openings}
use Rattle.voice_brass.proofs.brass_note.Goals as goal

pub loop-i-init : goal.loop-i-init
loop-i-init c = (refl, filled_none)

pub openings-requires : goal.openings-requires
openings-requires c =
    let end = c.block_end-end.ensures in
    let most = c.requires.frames.most in
    record {
      from_le_end = (omega (arith, end), omega (arith, end), omega (arith, filled_length c.loop-i.invariant.1, end, most));
      a_len = c.loop-i.invariant.0;
    }

pub loop-i-smaller : goal.loop-i-smaller
loop-i-smaller c =
    omega (arith, filled_length c.loop-i.invariant.1, c.block_end-end.ensures)

pub loop-i-preserved : goal.loop-i-preserved
loop-i-preserved c =
    let p = c.args in
    let done = c.openings.ensures in (
      done.0,
      filled_to ((c.frames-s.ensures _ (λ k s r ge lt q. rw (← done.1.at k ge lt) (search rules))).on _ _ _ (λ k h l s. refl) c.loop-i.invariant.1) (omega arith),
    )

pub shape_of-out : goal.shape_of-out
shape_of-out c = filled_length c.loop-i.invariant.1

pub returns : goal.returns
returns c =
    let p = c.args in
    filled_frames c.loop-i.invariant.1 (omega (arith, filled_length c.loop-i.invariant.1)) (omega arith) ∙ by_openings (pitch_at p.pitch p.lane.now) p.gain p.srf _

pub returns-2 : goal.returns-2
returns-2 c =
    let p = c.args in
    let done = c.openings.ensures in
    filled_frames ((c.frames-s.ensures _ (λ k s r ge lt q. rw (← done.1.at k ge lt) (search rules))).on _ _ _ (λ k h l s. refl) c.loop-i.invariant.1)
    (omega (arith, filled_length c.loop-i.invariant.1, last_block _ _ c.block_end-end.ensures.3 (omega arith))) (omega arith)
    ∙ by_openings (pitch_at p.pitch p.lane.now) p.gain p.srf _
