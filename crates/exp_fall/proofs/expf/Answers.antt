-- `exp_fall::expf` meets its contract. Assumes nothing.
use borrow.Author.Rules.{rules}
use mathlib.Core.Bool.{not}
use lib.Ieee.{binary64, fits, is_nan}
use lib.Ieee.Fits.{and_i}
use Rattle.exp_fall.proofs.Falls.{above_number}
use Rattle.exp_fall.proofs.expf.Goals as goal

pub float_to_float-z : goal.float_to_float-z
float_to_float-z c = let x = c.args.x in and_i (fits binary64 x) (not (is_nan x)) (search rules) (above_number x c.if-x.true)

pub expf_falling-requires : goal.expf_falling-requires
expf_falling-requires c = record { above = c.if-x.true; positive = c.if-a.true; near = c.if-a-2.true }
