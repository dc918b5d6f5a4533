-- The loops of `voice_piano::wires::wires_by`.
use Rattle.std.proofs.Common.{◌≡◌, ◌-◌, ◌≤◌, length, arith, rules}
use Rattle.ieee.specs.Numbers.{c0}
use Rattle.laws.proofs.Sweep.{Swept, swept_none, swept_more, swept_items, swept_sum}
use Rattle.voice_piano.specs.Wires.{added, moved}
use Rattle.voice_piano.specs.Block.{no_partial}
use Rattle.voice_piano.proofs.Sines.{swept_seen}
use Rattle.voice_piano.proofs.wires.wires_by.Given as goal

abbrev pub invariant-loop-j : goal.invariant-loop-j
invariant-loop-j l = Swept added (moved l.dt l.det) c0 l.initial.parts l.j l.parts l.sum × (l.j ≤ l.count)
