-- The loops of `quarter_tone::halved`.
use Prim.Native.Nat.{◌-◌, ◌≤◌}
use mathlib.Core.Path.{◌≡◌, ap, ◌∙◌}
use native.Mathlib.Omega.{arith}
use native.Mathlib.Numerals.{add-one}
use Rattle.quarter_tone.specs.Halves.{halves}
use Rattle.quarter_tone.proofs.Halving.{halved_none, halved_more}
use Rattle.quarter_tone.proofs.halved.Given as goal

abbrev pub invariant-loop-k : goal.invariant-loop-k
invariant-loop-k l = (l._k ≤ l.times) × (l.y ≡ halves l.x l._k)
