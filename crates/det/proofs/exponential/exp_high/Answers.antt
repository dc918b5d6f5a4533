-- `det::exponential::exp_high` meets its contract. Assumes nothing.
use Rattle.det.proofs.Above.{sum_number, sum_room, high_number, high_is}
use Rattle.det.specs.Exp.{less_ln2, exp_near}
use native.Mathlib.Omega.{arith}
use Rattle.det.proofs.exponential.exp_high.Goals as goal

pub float_to_bits-result : goal.float_to_bits-result
float_to_bits-result c = sum_number c.args.x c.requires

pub overflow_add-result : goal.overflow_add-result
overflow_add-result c = omega (arith, sum_room c.args.x c.requires)

pub float_from_bits-result : goal.float_from_bits-result
float_from_bits-result c = high_number c.args.x c.requires

pub returns : goal.returns
unfolding less_ln2 exp_near
returns c = high_is c.args.x c.requires
