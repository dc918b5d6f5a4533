-- `voice_bass::bass_note` meets its contract: a block carries `Filled` on. Assumes nothing.
use Prim.Native.Nat.{◌-◌}
use mathlib.Core.Path.{◌≡◌, refl, ap, ◌∙◌}
use native.Mathlib.Omega.{arith}
use borrow.Author.Rules.{rules}
use lib.ListN.{length}
use Rattle.laws.proofs.Fill.{Filled, filled_none, filled_frames, filled_length}
use Rattle.frame_block.proofs.Blocks.{filled_to, last_block}
use Rattle.dsl.specs.Pitch.{pitch_at}
use Rattle.dsl.proofs.Reach.{reaches_less}
use lib.Ieee.{Float}
use Rattle.frame_block.specs.Decay.{decay_at}
use Rattle.voice_bass.specs.Block.{bass_by}
use Rattle.voice_bass.proofs.Bass.{read_at, read_is, by_readings}
use Rattle.voice_bass.proofs.bass_note.Goals as goal

pub loop-i-init : goal.loop-i-init
loop-i-init c = (refl, refl, filled_none)

pub openings-requires : goal.openings-requires
openings-requires c =
    let end = c.block_end-end.ensures in
    let most = c.requires.frames.most in
    record {
      from_le_end = (omega (arith, end), omega (arith, end), omega (arith, filled_length c.loop-i.invariant.2, end, most));
      a_len = c.loop-i.invariant.0;
    }

pub decays_before-requires : goal.decays_before-requires
decays_before-requires c =
    let end = c.block_end-end.ensures in
    let most = c.requires.frames.most in
    record {
      from_le_end = (omega (arith, end), omega (arith, end), omega (arith, filled_length c.loop-i.invariant.2, end, most));
      a_len = c.loop-i.invariant.1;
    }

pub loop-i-smaller : goal.loop-i-smaller
loop-i-smaller c =
    omega (arith, filled_length c.loop-i.invariant.2, c.block_end-end.ensures)

pub loop-i-preserved : goal.loop-i-preserved
loop-i-preserved c =
    let p = c.args in
    let opened = c.openings.ensures in
    let faded = c.decays_before.ensures in
    let fade = ap (λ (d : Float). decay_at p.srf d) c.max_f32-body_decay.ensures in (
      opened.0,
      faded.0,
      filled_to
          ((c.frames-s.ensures _ (λ k s r ge lt q. rw (← read_is p.bass p.gain p.srf opened.1 faded.1 fade k ge lt) (search rules))).on _ _ _ (λ k h l s. refl) c.loop-i.invariant.2)
          (omega arith),
    )

pub shape_of-out : goal.shape_of-out
shape_of-out c = filled_length c.loop-i.invariant.2

pub returns : goal.returns
returns c =
    let p = c.args in
    filled_frames c.loop-i.invariant.2 (omega (arith, filled_length c.loop-i.invariant.2)) (omega arith) ∙ by_readings p.bass p.gain p.srf (pitch_at p.pitch p.lane.now) _

pub returns-2 : goal.returns-2
returns-2 c =
    let p = c.args in
    let opened = c.openings.ensures in
    let faded = c.decays_before.ensures in
    let fade = ap (λ (d : Float). decay_at p.srf d) c.max_f32-body_decay.ensures in
    filled_frames
    ((c.frames-s.ensures _ (λ k s r ge lt q. rw (← read_is p.bass p.gain p.srf opened.1 faded.1 fade k ge lt) (search rules))).on _ _ _ (λ k h l s. refl) c.loop-i.invariant.2)
    (omega (arith, filled_length c.loop-i.invariant.2, last_block _ _ c.block_end-end.ensures.3 (omega arith))) (omega arith)
    ∙ by_readings p.bass p.gain p.srf (pitch_at p.pitch p.lane.now) _
