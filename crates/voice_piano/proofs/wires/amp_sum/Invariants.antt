-- The loops of `voice_piano::wires::amp_sum`.
use Rattle.std.proofs.Common.{◌≡◌, ◌-◌, ◌≤◌, length, refl, arith, rules}
use lib.Ieee.{neg}
use Rattle.ieee.specs.Numbers.{c0}
use Rattle.laws.proofs.Fold.{Folded, folded_none, folded_more, folded_all}
use Rattle.voice_piano.specs.Wires.{amp_added}
use Rattle.voice_piano.proofs.wires.amp_sum.Given as goal

abbrev pub invariant-loop-j : goal.invariant-loop-j
invariant-loop-j l = Folded amp_added (neg c0) l.items l.j l.sum × (l.j ≤ l.count)
