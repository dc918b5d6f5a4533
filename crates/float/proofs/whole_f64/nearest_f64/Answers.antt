-- `float::whole_f64::nearest_f64` meets its contract: the law `nearest_is`. Assumes nothing.
use denote.Floats.{passes}
use lib.Ieee.{binary64, of_bits}
use Rattle.float.proofs.Wholes.{parts, nearest_is}
use Rattle.float.proofs.whole_f64.nearest_f64.Goals as goal

pub returns : goal.returns
unfolding of_bits
returns c = nearest_is (parts binary64 c.args.a c.requires) (passes _ c.well_formed.0.1)
