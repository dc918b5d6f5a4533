-- `voice_strings::strings_note` meets its contract: a block carries `Filled` on. Assumes nothing.
use mathlib.Core.Path.{◌≡◌, refl, ◌∙◌}
use native.Mathlib.Omega.{arith}
use borrow.Author.Rules.{rules}
use Rattle.laws.proofs.Fill.{Filled, filled_none, filled_frames, filled_length}
use Rattle.frame_block.proofs.Blocks.{filled_to, last_block}
use Rattle.dsl.specs.Pitch.{pitch_at}
use Rattle.voice_strings.proofs.Strings.{by_swells}
use Rattle.voice_strings.proofs.strings_note.Goals as goal

pub loop-i-init : goal.loop-i-init
loop-i-init c = (refl, filled_none)

pub loop-i-preserved : goal.loop-i-preserved
loop-i-preserved c =
    let done = c.decays_before.ensures in
    (done.0, filled_to ((c.frames-s.ensures _ (λ k s r ge lt p. rw (← done.1.at k ge lt) (search rules))).on _ _ _ (λ k h l s. refl) c.loop-i.invariant.1) (omega arith))

pub returns : goal.returns
returns c =
    let p = c.args in
    rw (← c.exp.ensures) (filled_frames c.loop-i.invariant.1 (omega (arith, filled_length c.loop-i.invariant.1)) (omega arith))
    ∙ by_swells (pitch_at p.pitch p.lane.now) p.srf _

pub returns-2 : goal.returns-2
returns-2 c =
    let p = c.args in
    let done = c.decays_before.ensures in
    rw (← c.exp.ensures)
    (filled_frames ((c.frames-s.ensures _ (λ k s r ge lt p. rw (← done.1.at k ge lt) (search rules))).on _ _ _ (λ k h l s. refl) c.loop-i.invariant.1)
    (omega (arith, filled_length c.loop-i.invariant.1, last_block _ _ c.block_end-end.ensures.3 (omega arith))) (omega arith))
    ∙ by_swells (pitch_at p.pitch p.lane.now) p.srf _
