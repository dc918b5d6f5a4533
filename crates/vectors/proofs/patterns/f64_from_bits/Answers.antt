use Rattle.std.proofs.Common.{arith}
use Rattle.std.proofs.lemmas.Float.{not_nan_f64_bits}
use Rattle.vectors.proofs.patterns.f64_from_bits.Goals as goal

-- a pattern that with the sign taken off is at most the infinity's is no NaN's
pub float_from_bits-result : goal.float_from_bits-result
float_from_bits-result c = not_nan_f64_bits c.args.pattern (omega arith)
