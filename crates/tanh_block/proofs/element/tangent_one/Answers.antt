-- `tanh_block::element::tangent_one` meets its contract. Assumes nothing.
use mathlib.Core.Bool.{not}
use lib.Ieee.{binary64, fits, is_nan}
use lib.Ieee.Fits.{and_i}
use borrow.Author.Rules.{rules}
use Rattle.tanh_block.proofs.Tangent.{inner_number}
use Rattle.tanh_block.proofs.element.tangent_one.Goals as goal

pub float_to_float-x : goal.float_to_float-x
float_to_float-x c = let x = c.args.x in and_i (fits binary64 x) (not (is_nan x)) (search rules) (inner_number x c.requires)
