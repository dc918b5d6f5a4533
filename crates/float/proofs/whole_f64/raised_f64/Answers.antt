-- `float::whole_f64::raised_f64` meets its contract: `raised_taken` and `raised_left`. Assumes nothing.
use Rattle.std.proofs.Common.{rules}
use denote.Floats.{passes}
use lib.Ieee.{binary64, of_bits}
use Rattle.float.proofs.Wholes.{parts, raised_taken, raised_left}
use Rattle.float.proofs.whole_f64.raised_f64.Goals as goal

pub returns-then-n-a : goal.returns-then-n-a
unfolding of_bits
returns-then-n-a c =
    raised_taken (parts binary64 c.args.a c.requires) (passes _ c.well_formed.0.1) c.nearest_f64-n.result c.nearest_f64-n.ensures c.if-n-a.true

pub returns-else-n-a : goal.returns-else-n-a
unfolding of_bits
returns-else-n-a c =
    raised_left (parts binary64 c.args.a c.requires) (passes _ c.well_formed.0.1) c.nearest_f64-n.result c.nearest_f64-n.ensures c.if-n-a.false
