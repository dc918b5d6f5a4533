-- `osc::wrap` meets its contract: where the code takes off 0 or 1, that is the floor. Assumes nothing.
use mathlib.Core.Path.{ap}
use borrow.Author.Rules.{rules}
use lib.Ieee.{Float}
use Rattle.ieee.specs.Binary32.{◌⊖◌}
use Rattle.osc.proofs.Wholes.{floor_none, floor_one}
use Rattle.osc.proofs.wrap.Goals as goal

pub returns-then-phase-2 : goal.returns-then-phase-2
returns-then-phase-2 c = let x = c.args.phase in ap (λ (n : Float). x ⊖ n) (floor_none x c.if-phase-2.true c.if-phase.true)

pub returns-then-phase-3 : goal.returns-then-phase-3
returns-then-phase-3 c = let x = c.args.phase in ap (λ (n : Float). x ⊖ n) (floor_one x c.if-phase.false c.if-phase-3.true)

pub returns : goal.returns
returns c = rw c.floor_f32.ensures
