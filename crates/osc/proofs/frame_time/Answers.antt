-- `osc::frame_time` meets its contract. Assumes nothing.
use mathlib.Core.Path.{ap}
use borrow.Author.Rules.{rules}
use Prim.Native.Nat.{◌^◌}
use lib.Dec.{le→leb}
use lib.IntN.{ℤ}
use lib.Ieee.{binary32, in_float, of_int}
use Rattle.ieee.specs.Binary32.{◌⊘◌}
use Rattle.osc.proofs.Frames.{frame_number}
use Rattle.osc.proofs.frame_time.Goals as goal

pub int_to_float-result : goal.int_to_float-result
unfolding in_float
int_to_float-result c = rw (frame_number c.args.i c.requires) (le→leb c.args.i (2 ^ 24) c.requires.most)

pub returns : goal.returns
returns c = ap (λ (z : ℤ). of_int binary32 z ⊘ c.args.srf) (frame_number c.args.i c.requires)
