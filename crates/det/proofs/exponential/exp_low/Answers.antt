-- `det::exponential::exp_low` meets its contract. Assumes nothing.
use Rattle.det.proofs.Below.{s_number, s_room, power_number, low_is}
use Rattle.det.specs.Exp.{less_ln2, exp_near}
use Rattle.det.proofs.exponential.exp_low.Goals as goal

pub float_to_bits-result : goal.float_to_bits-result
float_to_bits-result c = s_number c.args.x c.requires

pub overflow_sub-result : goal.overflow_sub-result
overflow_sub-result c = s_room c.args.x c.requires

pub float_from_bits-result : goal.float_from_bits-result
float_from_bits-result c = power_number c.args.x c.requires

pub returns : goal.returns
unfolding less_ln2 exp_near
returns c = low_is c.args.x c.requires
