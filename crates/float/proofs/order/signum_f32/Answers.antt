-- `float::order::signum_f32` meets its contract. Assumes nothing.
use Rattle.std.proofs.Common.{arith, rules}
use lib.Ieee.{binary32}
use lib.Ieee.Bits.{to_bits-lt}
use denote.Floats.{passes}
use Rattle.ieee.proofs.Nans.{is_nan_lem, no_nan, plain_bits}
use Rattle.float.proofs.Highest.{signum_nan, signum_bits}
use Rattle.float.proofs.order.signum_f32.Goals as goal

pub returns-then-x : goal.returns-then-x
returns-then-x c = signum_nan c.args.x (is_nan_lem c.args.x c.if-x.true)

pub float_to_bits-bits : goal.float_to_bits-bits
float_to_bits-bits c = no_nan c.args.x c.if-x.false

pub overflow_add-result : goal.overflow_add-result
overflow_add-result c = let h = to_bits-lt binary32 c.args.x (passes _ c.well_formed.0.1) in record { fits = omega arith }

pub float_from_bits-result : goal.float_from_bits-result
float_from_bits-result c = let h = to_bits-lt binary32 c.args.x (passes _ c.well_formed.0.1) in plain_bits binary32 _ (omega arith)

pub returns : goal.returns
returns c = signum_bits c.args.x (passes _ c.well_formed.0.1) (no_nan c.args.x c.if-x.false)
