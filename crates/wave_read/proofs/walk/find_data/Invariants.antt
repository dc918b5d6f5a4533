-- The loops of `wave_read::walk::find_data`.
use Prim.Native.Nat.{◌-◌}
use mathlib.Core.Path.{◌≡◌}
use lib.ListN.{length, drop}
use Rattle.wave_read.specs.Reading.{walk}
use Rattle.wave_read.proofs.walk.find_data.Given as goal

abbrev pub invariant-loop-at : goal.invariant-loop-at
invariant-loop-at l = walk 0 l.met (drop l.at l.file) ≡ walk 0 l.initial.met (drop 12 l.file)

abbrev pub decreases-loop-at : goal.decreases-loop-at
decreases-loop-at l = length l.file - l.at
