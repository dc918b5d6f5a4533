-- `dsl::pitch::Reading::each_at` meets its contract. Assumes nothing.
use Prim.Native.Nat.{◌+◌, ◌/◌, ◌<◌}
use mathlib.Core.Path.{◌≡◌, ap, ◌∙◌}
use native.Mathlib.Nat.{div-one}
use native.Mathlib.Omega.{arith}
use borrow.Author.Rules.{rules}
use lib.ListN.{length}
use Rattle.dsl.specs.Pitch.{value_at, pitch_at}
use Rattle.dsl.specs.declared.pitch.Pitch.TheVariants.{Curve}
use Rattle.dsl.proofs.Reach.{reached_within}
use Rattle.dsl.proofs.pitch.Reading.each_at.Goals as goal

-- frame i has the curve's value i
pub overflow_add-result : goal.overflow_add-result
overflow_add-result c =
    let place_is : c.args.i / c.args.self.hop ≡ c.args.i = ap (λ (h : _). c.args.i / h) c.requires.hop_value ∙ div-one c.args.i in
    let within : (offset : _) → c.args.self.pitch ≡ Curve offset → offset + c.args.i < length c.args.lane.now =
    λ offset is. rw (place_is) at (reached_within c.args.self offset _ _ is c.requires.reaches) in
    let place = within _ c.in-Curve.is in omega (arith, place)

pub offset_bounds-lane-offset : goal.offset_bounds-lane-offset
offset_bounds-lane-offset c =
    let place_is : c.args.i / c.args.self.hop ≡ c.args.i = ap (λ (h : _). c.args.i / h) c.requires.hop_value ∙ div-one c.args.i in
    let within : (offset : _) → c.args.self.pitch ≡ Curve offset → offset + c.args.i < length c.args.lane.now =
    λ offset is. rw (place_is) at (reached_within c.args.self offset _ _ is c.requires.reaches) in
    let place = within _ c.in-Curve.is in search rules

pub bounds-lane-offset : goal.bounds-lane-offset
bounds-lane-offset c =
    let place_is : c.args.i / c.args.self.hop ≡ c.args.i = ap (λ (h : _). c.args.i / h) c.requires.hop_value ∙ div-one c.args.i in
    let within : (offset : _) → c.args.self.pitch ≡ Curve offset → offset + c.args.i < length c.args.lane.now =
    λ offset is. rw (place_is) at (reached_within c.args.self offset _ _ is c.requires.reaches) in
    within _ c.in-Curve.is

pub returns-in-Const : goal.returns-in-Const
unfolding pitch_at value_at
returns-in-Const c = rw c.in-Const.is

pub returns-in-Curve : goal.returns-in-Curve
unfolding pitch_at value_at
returns-in-Curve c =
    let place_is : c.args.i / c.args.self.hop ≡ c.args.i = ap (λ (h : _). c.args.i / h) c.requires.hop_value ∙ div-one c.args.i in
    rw (c.in-Curve.is, place_is)
