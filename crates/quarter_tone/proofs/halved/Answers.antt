-- `quarter_tone::halved` meets its contract. Assumes nothing.
use Prim.Native.Nat.{◌-◌, ◌≤◌}
use mathlib.Core.Path.{◌≡◌, ap, ◌∙◌}
use native.Mathlib.Omega.{arith}
use native.Mathlib.Numerals.{add-one}
use Rattle.quarter_tone.specs.Halves.{halves}
use Rattle.quarter_tone.proofs.Halving.{halved_none, halved_more}
use Rattle.quarter_tone.proofs.halved.Goals as goal

pub loop-k-init : goal.loop-k-init
loop-k-init c = (omega arith, halved_none _)

pub overflow_step-k : goal.overflow_step-k
overflow_step-k c = record { fits = omega arith }

pub loop-k-preserved : goal.loop-k-preserved
loop-k-preserved c = (omega arith, rw add-one (halved_more _ _ c.loop-k.invariant.1))

pub returns : goal.returns
returns c =
    let e : c.loop-k._k ≡ c.args.times = omega (arith, c.loop-k.invariant.0) in
    c.loop-k.invariant.1 ∙ ap (halves c.args.x) e
