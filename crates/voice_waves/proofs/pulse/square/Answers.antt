-- `voice_waves::pulse::square` meets its contract: a block carries `Filled` on. Assumes nothing.
use Prim.Native.Nat.{◌-◌}
use mathlib.Core.Path.{◌≡◌, refl, ◌∙◌}
use native.Mathlib.Omega.{arith}
use borrow.Author.Rules.{rules}
use lib.ListN.{length}
use Rattle.laws.proofs.Fill.{Filled, filled_none, filled_frames, filled_length}
use Rattle.frame_block.proofs.Blocks.{filled_to, last_block}
use Rattle.dsl.specs.Pitch.{pitch_at}
use Rattle.dsl.proofs.Reach.{reaches_less}
use Rattle.voice_waves.specs.Block.{square_by}
use Rattle.voice_waves.proofs.Stepped.{read_at, read_is, square_frames_lem}
use Rattle.voice_waves.proofs.pulse.square.Goals as goal

pub loop-i-init : goal.loop-i-init
loop-i-init c = (refl, refl, refl, filled_none)

pub steps-requires : goal.steps-requires
steps-requires c =
    let v = c.loop-i.invariant in
    let end = c.block_end-end.ensures in
    record {
      from_le_end = (omega (arith, end), omega (arith, end), v.0, v.1);
      reaches = reaches_less c.args.pitch _ _ _ c.requires.reaches (omega (arith, filled_length v.3, end));
    }

pub widths-requires : goal.widths-requires
widths-requires c =
    let v = c.loop-i.invariant in
    let end = c.block_end-end.ensures in
    record {
      from_le_end = (omega (arith, end), omega (arith, end), c.steps.ensures.f_len.0, v.2);
      reaches = reaches_less c.args.duty _ _ _ c.requires.reaches_2 (omega (arith, filled_length v.3, end));
    }

pub loop-i-smaller : goal.loop-i-smaller
loop-i-smaller c =
    omega (arith, filled_length c.loop-i.invariant.3, c.block_end-end.ensures)

pub loop-i-preserved : goal.loop-i-preserved
loop-i-preserved c =
    let p = c.args in
    let f = pitch_at p.pitch p.lane.now in
    let d = pitch_at p.duty p.duties.now in
    let read = read_is f d p.srf c.steps.ensures.tabled c.widths.ensures.tabled in (
      c.widths.ensures.d_len.0,
      c.steps.ensures.f_len.1,
      c.widths.ensures.d_len.1,
      filled_to ((c.frames-s.ensures _ (λ k s r ge lt q. rw (← read k ge lt) (search rules))).on _ _ _ (λ k h l s. refl) c.loop-i.invariant.3) (omega arith),
    )

pub shape_of-out : goal.shape_of-out
shape_of-out c = filled_length c.loop-i.invariant.3

pub returns : goal.returns
returns c =
    let p = c.args in
    let v = c.loop-i.invariant.3 in
    filled_frames v (omega (arith, filled_length v)) (omega arith) ∙ square_frames_lem (pitch_at p.pitch p.lane.now) (pitch_at p.duty p.duties.now) p.srf _

pub returns-2 : goal.returns-2
returns-2 c =
    let p = c.args in
    let f = pitch_at p.pitch p.lane.now in
    let d = pitch_at p.duty p.duties.now in
    let read = read_is f d p.srf c.steps.ensures.tabled c.widths.ensures.tabled in
    filled_frames ((c.frames-s.ensures _ (λ k s r ge lt q. rw (← read k ge lt) (search rules))).on _ _ _ (λ k h l s. refl) c.loop-i.invariant.3)
    (omega (arith, filled_length c.loop-i.invariant.3, last_block _ _ c.block_end-end.ensures.3 (omega arith))) (omega arith) ∙ square_frames_lem f d p.srf _
