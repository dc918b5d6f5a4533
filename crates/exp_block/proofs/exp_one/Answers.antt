-- `exp_block::exp_one` meets its contract. Assumes nothing.
use mathlib.Core.Bool.{not}
use lib.Ieee.{binary64, fits, is_nan}
use lib.Ieee.Fits.{and_i}
use borrow.Author.Rules.{rules}
use Rattle.exp_fall.proofs.Falls.{above_number}
use Rattle.exp_block.proofs.exp_one.Goals as goal

pub float_to_float-x : goal.float_to_float-x
float_to_float-x c = let x = c.args.x in and_i (fits binary64 x) (not (is_nan x)) (search rules) (above_number x c.requires.above)
