-- The loops of `voice_waves::pulse::triangle_block`.
use Prim.Native.Nat.{◌-◌, ◌≤◌}
use native.Mathlib.Omega.{arith}
use borrow.Author.Rules.{rules}
use lib.Ieee.{nan}
use lib.ListN.{get_or}
use Rattle.blocks.proofs.Carried.{Carried, carried_none, carried_more, carried_all}
use Rattle.voice_waves.specs.Block.{triangle_by}
use Rattle.voice_waves.proofs.pulse.triangle_block.Given as goal

abbrev pub invariant-loop-i : goal.invariant-loop-i
invariant-loop-i l = (l.i ≤ l.end) × Carried (λ i. triangle_by (get_or l.dt (i - l.from) nan)) (λ o. o.sample) (λ o. o.state) l.from l.i l.initial.out l.initial.s l.out l.s
