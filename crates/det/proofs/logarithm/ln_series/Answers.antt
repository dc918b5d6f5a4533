-- `det::logarithm::ln_series` meets its contract. Assumes nothing.
use native.Mathlib.Nat.{lt_trans}
use lib.Dec.{lit<}
use Rattle.det.specs.Ln.{ln_series}
use Rattle.float.proofs.Signed.{back}
use Rattle.det.proofs.Casts.{in_float_lem}
use Rattle.det.proofs.logarithm.ln_series.Goals as goal

pub int_to_float-k : goal.int_to_float-k
int_to_float-k c = rw (back c.args.exp_bits c.ranges.exp_bits.sfits) (in_float_lem c.args.exp_bits (lt_trans c.requires (lit< tt)))

pub returns : goal.returns
unfolding ln_series
returns c = rw (back c.args.exp_bits c.ranges.exp_bits.sfits)
