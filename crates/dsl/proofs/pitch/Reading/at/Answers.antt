-- `dsl::pitch::Reading::at` meets its contract. Assumes nothing.
use native.Mathlib.Omega.{arith}
use borrow.Author.Rules.{rules}
use Rattle.dsl.specs.Pitch.{value_at, pitch_at}
use Rattle.dsl.proofs.Reach.{reached_within}
use Rattle.dsl.proofs.Hop.{product_fits, product_is}
use Rattle.dsl.proofs.pitch.Reading.at.Goals as goal

pub overflow_mul-result : goal.overflow_mul-result
overflow_mul-result c = record { fits = product_fits c.args.self _ c.args.i c.requires }

pub overflow_add-result : goal.overflow_add-result
overflow_add-result c =
    let place = reached_within c.args.self _ _ _ c.in-Curve.is c.requires in
    rw (product_is c.args.self _ c.args.i c.requires) (omega (arith, place))

pub offset_bounds-lane-offset : goal.offset_bounds-lane-offset
offset_bounds-lane-offset c =
    let place = reached_within c.args.self _ _ _ c.in-Curve.is c.requires in
    rw (product_is c.args.self _ c.args.i c.requires) (search rules)

pub bounds-lane-offset : goal.bounds-lane-offset
bounds-lane-offset c =
    rw (product_is c.args.self _ c.args.i c.requires) (reached_within c.args.self _ _ _ c.in-Curve.is c.requires)

pub returns-in-Const : goal.returns-in-Const
unfolding pitch_at value_at
returns-in-Const c = rw c.in-Const.is

pub returns-in-Curve : goal.returns-in-Curve
unfolding pitch_at value_at
returns-in-Curve c = rw (c.in-Curve.is, product_is c.args.self _ c.args.i c.requires)
