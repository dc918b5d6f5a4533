-- `float::whole_f32::fract_f32` meets its contract. Assumes nothing.
use Rattle.std.proofs.Common.{ap, rules}
use lib.Ieee.{Float, binary32, sub}
use Rattle.float.proofs.whole_f32.fract_f32.Goals as goal

pub returns : goal.returns
returns c = ap (λ (y : Float). sub binary32 c.args.x y) c.trunc_f32.ensures
