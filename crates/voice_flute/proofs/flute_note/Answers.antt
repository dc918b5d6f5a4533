-- `voice_flute::flute_note` meets its contract: each block carries the frames on, and the state that the last one leaves has the generator. Assumes nothing.
use native.Mathlib.Omega.{arith}
use Prim.Native.Nat.{ℕ, ◌-◌, ◌^◌, ◌≤◌, ◌<◌}
use mathlib.Core.Path.{◌≡◌, refl, ap, ◌∙◌}
use mathlib.Core.List.{List}
use lib.ListN.{length}
use Rattle.laws.proofs.Fill.{filled_none, filled_state}
use Rattle.blocks.proofs.Carried.{Carried, carried_none, carried_then, carried_all, carried_note}
use Rattle.frame_block.proofs.Blocks.{last_block}
use Rattle.dsl.specs.Pitch.{pitch_at}
use Rattle.dsl.proofs.Reach.{reaches_less}
use Rattle.voice_flute.specs.declared.FluteState.{FluteState}
use Rattle.voice_flute.specs.Flute.{flute_at, flute_frames}
use Rattle.voice_flute.proofs.Flute.{flute_draws}
use borrow.Author.Rules.{rules}
use Rattle.voice_flute.proofs.flute_note.Goals as goal
use Rattle.voice_flute.proofs.flute_note.Goals.{else-loop-i-test, then-loop-i-test+else-i-end-i-gt64}

pub loop-i-init : goal.loop-i-init
loop-i-init c = (omega arith, (refl, refl, refl, refl, refl), (refl, refl), carried_none)

pub flute_block-state-requires : goal.flute_block-state-requires
flute_block-state-requires c =
    let v = c.loop-i.invariant in
    let end = c.block_end-end.ensures in
    record {
      from_le_end = (omega (arith, end), omega (arith, end), omega (arith, end));
      reaches = reaches_less c.args.pitch _ _ _ c.requires.reaches (omega (arith, end, v.3.kept));
      x_len = v.1;
      e_len = v.2;
    }

pub loop-i-smaller : goal.loop-i-smaller
loop-i-smaller c =
    omega (arith, c.block_end-end.ensures, c.loop-i.invariant.3.kept)

pub loop-i-preserved : goal.loop-i-preserved
loop-i-preserved c =
    let v = c.loop-i.invariant in
    let done = c.flute_block-state.ensures in
    (omega (arith, c.block_end-end.ensures, v.3.kept), done.x_len_2, done.e_len_2, carried_all (carried_then v.3 done.carried) (omega arith))

-- the two exits of the loop: after no block, and after the last
carried_is :
    {S O Y : Type 0} {step : ℕ → S → O} {sample : O → Y} {state : O → S} {to : ℕ} {out₀ out out' : List Y} {t s s' : S} →
    Carried step sample state 0 to out₀ t out s →
    out' ≡ out →
    s' ≡ s →
    Carried step sample state 0 to out₀ t out' s'
carried_is h e z = rw (e, z) h

pub returns : goal.returns
unfolding flute_frames
returns c =
    let fits : c.args.rng.0 < 2 ^ 64 = omega arith in
    let v = c.loop-i.invariant in
    let drawn = flute_draws _ _ _ _ _ _ fits in
    elim c.loop-i-test.branch [
      | else-loop-i-test w ↦
          let all = carried_is (carried_all {to = length c.args.out.now} v.3 (omega (arith, v.0, v.3.kept))) w.out-is w.state-is in
          record {
            out_after = rw (← c.exp-lp_a.ensures) (carried_note all refl);
            result_value = ap (λ (s : FluteState). s.rng.0) (filled_state (all.on _ _ _ (λ k m n s. refl) filled_none) (omega arith) refl) ∙ drawn;
          }
      | then-loop-i-test+else-i-end-i-gt64 w ↦
          let done = carried_then v.3 w.flute_block-state.ensures.carried in
          let all = carried_is (carried_all {to = length c.args.out.now} done (omega (arith, v.3.kept, last_block _ _ w.block_end-end.ensures.3 (omega arith)))) w.out-is w.state-is in
          record {
            out_after = rw (← c.exp-lp_a.ensures) (carried_note all refl);
            result_value = ap (λ (s : FluteState). s.rng.0) (filled_state (all.on _ _ _ (λ k m n s. refl) filled_none) (omega arith) refl) ∙ drawn;
          }
    ]
