-- `voice_waves::pulse::fract` meets its contract: above 0 the floor is the whole part. Assumes nothing.
use mathlib.Core.Path.{ap, ◌∙◌}
use borrow.Author.Rules.{rules}
use lib.Ieee.{Float}
use Rattle.ieee.specs.Binary32.{◌⊖◌}
use Rattle.osc.proofs.Wholes.{floor_cut}
use Rattle.voice_waves.proofs.pulse.fract.Goals as goal

pub returns-then-x : goal.returns-then-x
returns-then-x c =
    let x = c.args.x in
    c.wrap.ensures ∙ ap (λ (n : Float). x ⊖ n) (floor_cut x c.if-x.true)

pub returns : goal.returns
returns c = c.fract_f32.ensures
