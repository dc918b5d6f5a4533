use Rattle.ieee.proofs.Nans.{no_nan}
use Rattle.vectors.proofs.patterns.f32_bits.Goals as goal

-- past the test x is no NaN
pub float_to_bits-result : goal.float_to_bits-result
float_to_bits-result c = no_nan c.args.x c.if-x.false
