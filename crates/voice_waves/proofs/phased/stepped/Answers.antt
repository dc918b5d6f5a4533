-- `voice_waves::phased::stepped` meets its contract: a block carries `Filled` on. Assumes nothing.
use Rattle.std.proofs.Common.{refl, ◌∙◌, arith, rules}
use Rattle.laws.proofs.Fill.{filled_none, filled_frames, filled_length}
use Rattle.frame_block.proofs.Blocks.{filled_to, last_block}
use Rattle.dsl.proofs.Reach.{reaches_less}
use Rattle.voice_waves.proofs.phased.stepped.Goals as goal
use Rattle.voice_waves.proofs.phased.stepped.Goals.{else-loop-i-test, then-loop-i-test+else-i-end-i-counter-gt64}

pub loop-i-init : goal.loop-i-init
loop-i-init g c = (refl, refl, λ rule is. filled_none)

pub steps-requires : goal.steps-requires
steps-requires g c =
    let v = c.loop-i.invariant in
    let end = c.block_end-end.ensures in
    record {
      from_le_end = (omega (arith, end), omega (arith, end), v.0, v.1);
      reaches = reaches_less c.args.pitch _ _ _ c.requires.reaches (omega (arith, end));
    }

pub loop-i-preserved : goal.loop-i-preserved
loop-i-preserved g c =
    let t = c.steps.ensures in (
      t.f_len.0,
      t.f_len.1,
      λ rule is. filled_to ((c.frames-s.ensures _ (λ k s r ge lt q. rw (← t.tabled.at k ge lt) (is _ _ _ (search rules)))).on _ _ _ (λ k h l s. refl) (c.loop-i.invariant.2 rule is)) (omega arith),
    )

pub returns : goal.returns
returns g c = λ rule is.
    let v = c.loop-i.invariant.2 rule is in
    elim c.loop-i-test.branch [
      | else-loop-i-test w ↦ w.out-is ∙ filled_frames v (omega (arith, filled_length v)) (omega arith)
      | then-loop-i-test+else-i-end-i-counter-gt64 w ↦
          let t = w.steps.ensures in
          w.out-is
          ∙ filled_frames ((w.frames-s.ensures _ (λ k s r ge lt q. rw (← t.tabled.at k ge lt) (is _ _ _ (search rules)))).on _ _ _ (λ k h l s. refl) v)
          (omega (arith, filled_length v, last_block _ _ w.block_end-end.ensures.3 (omega arith))) (omega arith)
    ]
