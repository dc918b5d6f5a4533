-- `float::whole_f64::cut_f64` meets its contract: `cut_taken` and `cut_left`. Assumes nothing.
use Rattle.std.proofs.Common.{rules}
use denote.Floats.{passes}
use lib.Ieee.{binary64, of_bits}
use Rattle.float.proofs.Wholes.{parts, cut_taken, cut_left}
use Rattle.float.proofs.whole_f64.cut_f64.Goals as goal

pub returns-then-a-n : goal.returns-then-a-n
unfolding of_bits
returns-then-a-n c =
    cut_taken (parts binary64 c.args.a c.requires) (passes _ c.well_formed.0.1) c.nearest_f64-n.result c.nearest_f64-n.ensures c.if-a-n.true

pub returns-else-a-n : goal.returns-else-a-n
unfolding of_bits
returns-else-a-n c =
    cut_left (parts binary64 c.args.a c.requires) (passes _ c.well_formed.0.1) c.nearest_f64-n.result c.nearest_f64-n.ensures c.if-a-n.false
