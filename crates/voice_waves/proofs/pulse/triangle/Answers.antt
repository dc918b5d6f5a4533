-- `voice_waves::pulse::triangle` meets its contract: a block carries `Filled` on. Assumes nothing.
use Prim.Native.Nat.{◌-◌}
use mathlib.Core.Path.{◌≡◌, refl, ◌∙◌}
use native.Mathlib.Omega.{arith}
use borrow.Author.Rules.{rules}
use lib.ListN.{length}
use Rattle.laws.proofs.Fill.{Filled, filled_none, filled_frames, filled_length}
use Rattle.frame_block.proofs.Blocks.{filled_to, last_block}
use Rattle.dsl.specs.Pitch.{pitch_at}
use Rattle.dsl.proofs.Reach.{reaches_less}
use Rattle.osc.specs.Phase.{increment}
use Rattle.voice_waves.specs.Block.{triangle_by}
use Rattle.voice_waves.proofs.Stepped.{triangle_frames_lem}
use Rattle.voice_waves.proofs.pulse.triangle.Goals as goal

pub loop-i-init : goal.loop-i-init
loop-i-init c = (refl, refl, filled_none)

pub steps-requires : goal.steps-requires
steps-requires c =
    let v = c.loop-i.invariant in
    let end = c.block_end-end.ensures in
    record {
      from_le_end = (omega (arith, end), omega (arith, end), v.0, v.1);
      reaches = reaches_less c.args.pitch _ _ _ c.requires (omega (arith, filled_length v.2, end));
    }

pub triangle_block-s-requires : goal.triangle_block-s-requires
triangle_block-s-requires c = let end = c.block_end-end.ensures in (omega (arith, end), omega (arith, end), omega (arith, end))

pub loop-i-smaller : goal.loop-i-smaller
loop-i-smaller c =
    omega (arith, filled_length c.loop-i.invariant.2, c.block_end-end.ensures)

pub loop-i-preserved : goal.loop-i-preserved
loop-i-preserved c =
    let p = c.args in
    (c.steps.ensures.f_len.0, c.steps.ensures.f_len.1, filled_to (c.triangle_block-s.ensures.on _ _ _ (λ k h l s. rw (c.steps.ensures.tabled.at k h l)) c.loop-i.invariant.2) (omega arith))

pub shape_of-out : goal.shape_of-out
shape_of-out c = filled_length c.loop-i.invariant.2

pub returns : goal.returns
returns c =
    let p = c.args in
    filled_frames c.loop-i.invariant.2 (omega (arith, filled_length c.loop-i.invariant.2)) (omega arith) ∙ triangle_frames_lem (pitch_at p.pitch p.lane.now) p.srf _

pub returns-2 : goal.returns-2
returns-2 c =
    let p = c.args in
    filled_frames (c.triangle_block-s.ensures.on _ _ _ (λ k h l s. rw (c.steps.ensures.tabled.at k h l)) c.loop-i.invariant.2)
    (omega (arith, filled_length c.loop-i.invariant.2, last_block _ _ c.block_end-end.ensures.3 (omega arith))) (omega arith) ∙ triangle_frames_lem (pitch_at p.pitch p.lane.now) p.srf _
