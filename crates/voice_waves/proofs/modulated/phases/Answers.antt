-- `voice_waves::modulated::phases` meets its contract. Assumes nothing.
use native.Mathlib.Omega.{arith}
use native.Mathlib.Numerals.{add-one}
use Prim.Native.Nat.{◌+◌, ◌-◌, ◌≤◌}
use mathlib.Core.Path.{◌≡◌, refl, ap, ◌∙◌}
use lib.ListN.{length, length-set}
use lib.Ieee.{nan}
use Rattle.laws.specs.Run.{iterate}
use Rattle.blocks.proofs.Block.{Tabled, tabled_none, tabled_next, tabled_all}
use Rattle.dsl.specs.Pitch.{pitch_at}
use Rattle.dsl.proofs.Reach.{reaches_less}
use Rattle.osc.specs.Phase.{increment}
use Rattle.voice_waves.specs.Block.{modulator_turn_of, carrier_turn_of, fm_next, fm_reached}
use Rattle.voice_waves.specs.declared.modulated.FmState.{FmState}
use borrow.Author.Rules.{rules}
use Rattle.voice_waves.proofs.modulated.phases.Goals as goal

pub loop-k-init : goal.loop-k-init
unfolding iterate
loop-k-init c = ((omega arith, c.requires.n_bound.1, c.requires.n_bound.2), tabled_none, tabled_none, refl)

pub bounds-x-k : goal.bounds-x-k
bounds-x-k c = omega (arith, c.loop-k.invariant.0.1, c.loop-k-test.true, c.requires.n_bound.0)

pub bounds-c-k : goal.bounds-c-k
bounds-c-k c = omega (arith, c.loop-k.invariant.0.2, c.loop-k-test.true, c.requires.n_bound.0)

pub at-requires : goal.at-requires
at-requires c = reaches_less c.args.pitch _ _ _ c.requires.reaches (omega (arith, c.loop-k-test.true))

pub overflow_step-k : goal.overflow_step-k
overflow_step-k c = omega (arith, c.loop-k-test.true, c.requires.n_bound.0)

pub loop-k-preserved : goal.loop-k-preserved
unfolding iterate
loop-k-preserved c =
    let v = c.loop-k.invariant in
    let l = c.loop-k-test.true in
    let next : FmState → FmState = λ s. fm_next c.args.knobs s (increment (pitch_at c.args.pitch c.args.lane.now (c.args.from + c.loop-k.k)) c.args.srf) in
    let moved = rw (c.phase_step.ensures, c.at.ensures) at c.fm_next-s.ensures in (
      (omega (arith, l), rw length-set v.0.1, rw length-set v.0.2),
      tabled_next v.1 (omega (arith, l, v.0.1, c.requires.n_bound.0)) (ap modulator_turn_of v.3),
      tabled_next v.2 (omega (arith, l, v.0.2, c.requires.n_bound.0)) (ap carrier_turn_of v.3),
      rw add-one (moved ∙ ap next v.3),
    )

pub returns : goal.returns
returns c =
    let v = c.loop-k.invariant in
    let e : c.loop-k.k ≡ c.args.n = omega (arith, v.0.0, c.loop-k-test.false) in
    record {
      x_len = (v.0.1, v.0.2);
      tabled = tabled_all v.1 e;
      tabled_2 = tabled_all v.2 e;
      value = v.3 ∙ ap (fm_reached (pitch_at c.args.pitch c.args.lane.now) c.args.knobs c.args.srf c.args.from c.args.start) e;
    }
