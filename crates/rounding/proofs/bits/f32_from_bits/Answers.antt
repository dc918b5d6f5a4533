-- `rounding::bits::f32_from_bits` meets its contract. Assumes nothing.
use Rattle.std.proofs.Common.{◌∙◌, rules}
use lib.Ieee.{binary32}
use Rattle.ieee.proofs.Nans.{nan_made, nan_bits_lem, plain_bits}
use Rattle.rounding.proofs.bits.f32_from_bits.Goals as goal

pub returns-then-pattern-gt2139095040 : goal.returns-then-pattern-gt2139095040
returns-then-pattern-gt2139095040 c = nan_made ∙ nan_bits_lem binary32 c.args.pattern c.if-pattern-gt2139095040.true

pub float_from_bits-result : goal.float_from_bits-result
float_from_bits-result c = plain_bits binary32 c.args.pattern c.if-pattern-gt2139095040.false
