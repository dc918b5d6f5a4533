-- `raw_map::points_in` meets its contract. Assumes nothing.
use Prim.Native.Nat.{◌-◌, ◌≤◌}
use mathlib.Core.Path.{◌≡◌, ap, ◌∙◌}
use native.Mathlib.Omega.{arith}
use Rattle.tempo.specs.Map.{no_map}
use Rattle.tempo.specs.declared.map.TempoMap.{TempoMap}
use Rattle.raw_map.specs.Words.{point_in}
use Rattle.raw_map.proofs.Reading.{read, read_none, read_more}
use Rattle.raw_map.proofs.points_in.Goals as goal

pub loop-i-init : goal.loop-i-init
loop-i-init c = (omega arith, ap (λ (m : TempoMap). m.points) c.none-none.ensures ∙ read_none (point_in c.args.words.now) no_map.points)

pub point_in-requires : goal.point_in-requires
point_in-requires c = omega (arith, c.requires.n_in_bounds)

pub offset_bounds-points-i : goal.offset_bounds-points-i
offset_bounds-points-i c = record { fits = omega (arith, c.requires.n_bound) }

pub bounds-points-i : goal.bounds-points-i
bounds-points-i c = omega (arith, c.requires.n_bound)

pub overflow_step-i : goal.overflow_step-i
overflow_step-i c = record { fits = omega (arith, c.requires.n_bound) }

pub loop-i-preserved : goal.loop-i-preserved
loop-i-preserved c =
    (omega arith, read_more (point_in c.args.words.now) no_map.points c.loop-i.i (omega (arith, c.requires.n_bound)) c.loop-i.invariant.1 c.point_in.ensures)

pub returns : goal.returns
returns c =
    let e : c.loop-i.i ≡ c.args.n = omega (arith, c.loop-i.invariant.0) in
    c.loop-i.invariant.1 ∙ ap (read (point_in c.args.words.now) no_map.points) e
